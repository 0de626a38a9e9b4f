-- What is known of a vector whose memory is reserved ahead of its use. Assumes nothing.
use Rattle.std.specs.Prelude.{◌≡◌, ℕ, ◌≤◌, [], vec_items, vec_len, vec_capacity, Vec}
use Rattle.std.specs.declared.alloc.Global.{Global}

-- The vector is empty, and has room for n items.
pub record IsReserved {X : Type 0} (n : ℕ) (v : Vec X Global) : Type 0 where
  pub items : vec_items v ≡ []
  pub len : vec_len v ≡ 0
  pub room : n ≤ vec_capacity v
