-- The instances of a grammar's system, and their numbers. Assumes nothing.
use Rattle.std.specs.Prelude.{◌≡◌, ℕ, suc, ◌+◌, ◌-◌, ◌<◌, ◌≤◌, cond, List, [], ◌∷◌, length, nat_lt}
use Rattle.grammar_equations.specs.Rules.{Rule, Rules, symbol_count, rule_count, name_count, first_name, right_of}

-- A symbol; the suffix of production p from its k-th name on; the occurrence of the k-th right-side name of production p; the follow of a nonterminal.
pub data Instance : Type 0 where
  symbol : ℕ → Instance
  suffix : ℕ → ℕ → Instance
  occurrence : ℕ → ℕ → Instance
  follow : ℕ → Instance

-- The instance is one of the grammar's.
abbrev pub Valid : Rules → Instance → Type 0
Valid g (symbol s) = s < symbol_count g
Valid g (suffix p k) = (p < rule_count g) × (k ≤ length (right_of g p))
Valid g (occurrence p k) = (p < rule_count g) × (k < length (right_of g p))
Valid g (follow a) = a < g.nonterminals

-- Where the numbers of suffixes, occurrences and follows begin, and how many instances there are.
abbrev pub suffixes_from : Rules → ℕ
suffixes_from g = symbol_count g

abbrev pub occurrences_from : Rules → ℕ
occurrences_from g = suffixes_from g + (name_count g + rule_count g)

abbrev pub follows_from : Rules → ℕ
follows_from g = occurrences_from g + name_count g

abbrev pub instance_count : Rules → ℕ
instance_count g = follows_from g + g.nonterminals

-- Symbols, suffixes by production, occurrences by production, follows.
abbrev pub number : Rules → Instance → ℕ
number g (symbol s) = s
number g (suffix p k) = suffixes_from g + (first_name g p + p + k)
number g (occurrence p k) = occurrences_from g + (first_name g p + k)
number g (follow a) = follows_from g + a

-- The x-th of blocks of the given lengths, one behind the other: which block, and which of its places.
abbrev pub place : (Rule → ℕ) → List Rule → ℕ → ℕ × ℕ
place len [] x = (0, x)
place len (r ∷ rs) x = cond (nat_lt x (len r)) (0, x) (let q = place len rs (x - len r) in (suc q.0, q.1))

-- The instance with number i, below the number of instances.
abbrev pub decode : Rules → ℕ → Instance
decode g i =
    cond (nat_lt i (suffixes_from g)) (symbol i)
    (cond (nat_lt i (occurrences_from g)) (let q = place (λ r. suc (length r.right)) g.rules (i - suffixes_from g) in suffix q.0 q.1)
    (cond (nat_lt i (follows_from g)) (let q = place (λ r. length r.right) g.rules (i - occurrences_from g) in occurrence q.0 q.1)
    (follow (i - follows_from g))))

-- Each instance has one number, and each number below their count is of one instance.
pub record Numbered (g : Rules) : Type 0 where
  pub within : (x : Instance) → Valid g x → number g x < instance_count g
  pub decoded : (x : Instance) → Valid g x → decode g (number g x) ≡ x
  pub valid : (i : ℕ) → i < instance_count g → Valid g (decode g i)
  pub numbered : (i : ℕ) → i < instance_count g → number g (decode g i) ≡ i
