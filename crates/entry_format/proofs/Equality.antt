-- When two names are equal, and that this is an equivalence. Assumes nothing.
use Rattle.std.proofs.Common.{◌≡◌, ℕ, ◌<◌, min, Bool, true, false, List, length, take, sym, refl, ap, ◌∙◌, inl, inr, ⊎_elim, arith}
use Rattle.std.proofs.lemmas.Slice.Eq.{bytes_eq-Decides}
use Rattle.std.proofs.lemmas.List.{take_all, length-take}
use Rattle.std.proofs.lemmas.Bool.{cases_lt}
use Rattle.entry_format.specs.Names.{compared, EqualTexts, same_text, NameEquality}

-- two texts are equal exactly if their compared parts are the same
pub same_front : (a b : List ℕ) → same_text a b ≡ true → take compared a ≡ take compared b
unfolding same_text
same_front a b h = (bytes_eq-Decides (take compared a) (take compared b)).0 h

pub from_front : (a b : List ℕ) → take compared a ≡ take compared b → same_text a b ≡ true
unfolding same_text
from_front a b h = (bytes_eq-Decides (take compared a) (take compared b)).1 h

-- two texts that equal a third equal one another
pub same_as_third : (a b c : List ℕ) → same_text a c ≡ true → same_text b c ≡ true → same_text a b ≡ true
same_as_third a b c p q = from_front a b (same_front a c p ∙ sym (same_front b c q))

equal_from_front : (a b : List ℕ) → take compared a ≡ take compared b → EqualTexts a b
equal_from_front a b h =
    let lengths : min 16 (length a) ≡ min 16 (length b) = sym (length-take 16 a) ∙ ap length h ∙ length-take 16 b in
    ⊎_elim
    (λ short. let short' : length b < 16 = omega arith in
    inr (short, short', sym (take_all 16 a (omega arith)) ∙ h ∙ take_all 16 b (omega arith)))
    (λ long. inl (long, omega arith, h))
    (cases_lt (length a) 16)

front_from_equal : (a b : List ℕ) → EqualTexts a b → take compared a ≡ take compared b
front_from_equal a b h = ⊎_elim (λ long. long.2) (λ short. ap (take compared) short.2) h

same_tests : (x y : Bool) → (x ≡ true → y ≡ true) → (y ≡ true → x ≡ true) → x ≡ y
same_tests true y f g = sym (f refl)
same_tests false true f g = g refl
same_tests false false f g = refl

turned : (a b : List ℕ) → same_text a b ≡ true → same_text b a ≡ true
turned a b h = from_front b a (sym (same_front a b h))

pub name_equality : NameEquality
name_equality = record {
  decides = λ a b. (λ h. equal_from_front a b (same_front a b h), λ e. from_front a b (front_from_equal a b e));
  reflexive = λ a. from_front a a refl;
  symmetric = λ a b. same_tests (same_text a b) (same_text b a) (turned a b) (turned b a);
  transitive = λ a b c p q. same_as_third a c b p (turned b c q);
}
