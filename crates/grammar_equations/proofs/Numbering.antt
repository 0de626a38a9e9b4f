-- The numbers of instances. Assumes nothing.
use Rattle.std.proofs.Common.{◌≡◌, ℕ, suc, ◌+◌, ◌-◌, ◌<◌, ◌≤◌, ltb, length, take, Some, sym, refl, ap, ◌∙◌, subst, ⊎_elim, arith}
use Rattle.std.specs.List.{slice_get}
use Rattle.std.proofs.lemmas.List.{take_all}
use Rattle.std.proofs.lemmas.Bool.{cases_lt, cond-true, cond-false, lt-ltb, le-ltb}
use Rattle.grammar_equations.specs.Instances.{Instance, symbol, suffix, occurrence, follow, Valid, number, decode, place, suffixes_from, occurrences_from, follows_from, instance_count, Numbered}
use Rattle.grammar_equations.specs.Rules.{Rule, Rules, WellFormed, rule_count, name_count, first_name, right_of, right_from, total_length}
use Rattle.grammar_equations.proofs.Lists.{nth_within, nth_some}
use Rattle.grammar_equations.proofs.Blocks.{blocks, block_within, place_of, place_in, blocks_names, blocks_suffixes}

-- How many names and how many suffixes the right side has.
abbrev names : Rule → ℕ
names r = length r.right

abbrev suffixes : Rule → ℕ
suffixes r = suc (length r.right)

-- The instance at a place of a production.
abbrev suffix_at : ℕ × ℕ → Instance
suffix_at q = suffix q.0 q.1

abbrev occurrence_at : ℕ × ℕ → Instance
occurrence_at q = occurrence q.0 q.1

module _ (g : Rules) where
  -- Production p, and its right side.
  pub rule_at : (p : ℕ) → p < rule_count g → (r : Rule) × (slice_get g.rules p ≡ Some r) × (right_of g p ≡ r.right)
  rule_at p l = let h = nth_some g.rules p l in (h.0, h.1, ap right_from h.1)

  suffixes_before : (p : ℕ) → p ≤ rule_count g → blocks suffixes (take p g.rules) ≡ first_name g p + p
  suffixes_before = blocks_suffixes g.rules

  names_before : (p : ℕ) → blocks names (take p g.rules) ≡ first_name g p
  names_before p = blocks_names (take p g.rules)

  suffixes_in_all : blocks suffixes g.rules ≡ name_count g + rule_count g
  suffixes_in_all =
      let all : take (rule_count g) g.rules ≡ g.rules = take_all (rule_count g) g.rules (omega arith) in
      let e : blocks suffixes (take (rule_count g) g.rules) ≡ total_length (take (rule_count g) g.rules) + rule_count g = suffixes_before (rule_count g) (omega arith) in
      sym (ap (blocks suffixes) all) ∙ e ∙ ap (λ rs. total_length rs + rule_count g) all

  -- The number of a suffix, counted from the first, and of an occurrence.
  pub suffix_within : (p k : ℕ) → Valid g (suffix p k) → first_name g p + p + k < name_count g + rule_count g
  suffix_within p k v =
      let r = rule_at p v.0 in
      omega (arith, ap length r.2, v.1, block_within suffixes g.rules p r.0 r.1, suffixes_before p (omega (arith, v.0)), suffixes_in_all)

  pub occurrence_within : (p k : ℕ) → Valid g (occurrence p k) → first_name g p + k < name_count g
  occurrence_within p k v =
      let r = rule_at p v.0 in
      omega (arith, ap length r.2, v.1, block_within names g.rules p r.0 r.1, names_before p, blocks_names g.rules)

  pub number_within : (x : Instance) → Valid g x → number g x < instance_count g
  number_within (symbol s) v = omega (arith, v)
  number_within (suffix p k) v = omega (arith, suffix_within p k v)
  number_within (occurrence p k) v = omega (arith, occurrence_within p k v)
  number_within (follow a) v = omega (arith, v)

  -- The four ranges of numbers.
  decode_symbol : (i : ℕ) → i < suffixes_from g → decode g i ≡ symbol i
  decode_symbol i l = cond-true (ltb i (suffixes_from g)) _ _ (lt-ltb i (suffixes_from g) l)

  decode_suffix : (i : ℕ) → suffixes_from g ≤ i → i < occurrences_from g → decode g i ≡ suffix_at (place suffixes g.rules (i - suffixes_from g))
  decode_suffix i l m =
      cond-false (ltb i (suffixes_from g)) _ _ (le-ltb i (suffixes_from g) l)
      ∙ cond-true (ltb i (occurrences_from g)) _ _ (lt-ltb i (occurrences_from g) m)

  decode_occurrence : (i : ℕ) → occurrences_from g ≤ i → i < follows_from g → decode g i ≡ occurrence_at (place names g.rules (i - occurrences_from g))
  decode_occurrence i l m =
      cond-false (ltb i (suffixes_from g)) _ _ (le-ltb i (suffixes_from g) (omega arith))
      ∙ cond-false (ltb i (occurrences_from g)) _ _ (le-ltb i (occurrences_from g) l)
      ∙ cond-true (ltb i (follows_from g)) _ _ (lt-ltb i (follows_from g) m)

  decode_follow : (i : ℕ) → follows_from g ≤ i → decode g i ≡ follow (i - follows_from g)
  decode_follow i l =
      cond-false (ltb i (suffixes_from g)) _ _ (le-ltb i (suffixes_from g) (omega arith))
      ∙ cond-false (ltb i (occurrences_from g)) _ _ (le-ltb i (occurrences_from g) (omega arith))
      ∙ cond-false (ltb i (follows_from g)) _ _ (le-ltb i (follows_from g) l)

  pub decoded : (x : Instance) → Valid g x → decode g (number g x) ≡ x
  decoded (symbol s) v = decode_symbol s v
  decoded (suffix p k) v =
      let r = rule_at p v.0 in
      let at : number g (suffix p k) - suffixes_from g ≡ blocks suffixes (take p g.rules) + k = omega (arith, suffixes_before p (omega (arith, v.0))) in
      decode_suffix (number g (suffix p k)) (omega arith) (omega (arith, suffix_within p k v))
      ∙ ap (λ y. suffix_at (place suffixes g.rules y)) at
      ∙ ap suffix_at (place_of suffixes g.rules p k r.0 r.1 (omega (arith, ap length r.2, v.1)))
  decoded (occurrence p k) v =
      let r = rule_at p v.0 in
      let at : number g (occurrence p k) - occurrences_from g ≡ blocks names (take p g.rules) + k = omega (arith, names_before p) in
      decode_occurrence (number g (occurrence p k)) (omega arith) (omega (arith, occurrence_within p k v))
      ∙ ap (λ y. occurrence_at (place names g.rules y)) at
      ∙ ap occurrence_at (place_of names g.rules p k r.0 r.1 (omega (arith, ap length r.2, v.1)))
  decoded (follow a) v =
      let at : number g (follow a) - follows_from g ≡ a = omega arith in
      decode_follow (number g (follow a)) (omega arith) ∙ ap follow at

  -- The instance is valid and has the number i.
  abbrev HasNumber : ℕ → Instance → Type 0
  HasNumber i x = Valid g x × (number g x ≡ i)

  suffix_number : (i : ℕ) → suffixes_from g ≤ i → i < occurrences_from g → HasNumber i (decode g i)
  suffix_number i l m =
      let q : ℕ × ℕ = place suffixes g.rules (i - suffixes_from g) in
      let h = place_in suffixes g.rules (i - suffixes_from g) (omega (arith, suffixes_in_all)) in
      let below : q.0 < rule_count g = nth_within g.rules q.0 h.1 in
      subst (HasNumber i) (sym (decode_suffix i l m)) (
        (below, omega (arith, h.2, ap (λ o. length (right_from o)) h.1)),
        omega (arith, h.3, suffixes_before q.0 (omega (arith, below))),
      )

  occurrence_number : (i : ℕ) → occurrences_from g ≤ i → i < follows_from g → HasNumber i (decode g i)
  occurrence_number i l m =
      let q : ℕ × ℕ = place names g.rules (i - occurrences_from g) in
      let h = place_in names g.rules (i - occurrences_from g) (omega (arith, blocks_names g.rules)) in
      let below : q.0 < rule_count g = nth_within g.rules q.0 h.1 in
      subst (HasNumber i) (sym (decode_occurrence i l m)) (
        (below, omega (arith, h.2, ap (λ o. length (right_from o)) h.1)),
        omega (arith, h.3, names_before q.0),
      )

  pub has_number : (i : ℕ) → i < instance_count g → HasNumber i (decode g i)
  has_number i l =
      ⊎_elim
      (λ (a : i < suffixes_from g). subst (HasNumber i) (sym (decode_symbol i a)) (a, refl))
      (λ (a : suffixes_from g ≤ i).
      ⊎_elim (suffix_number i a)
      (λ (b : occurrences_from g ≤ i).
      ⊎_elim (occurrence_number i b)
      (λ (c : follows_from g ≤ i). subst (HasNumber i) (sym (decode_follow i c)) (omega arith, omega arith))
      (cases_lt i (follows_from g)))
      (cases_lt i (occurrences_from g)))
      (cases_lt i (suffixes_from g))

pub numbered : (g : Rules) → WellFormed g → Numbered g
numbered g w = record { within = number_within g; decoded = decoded g; valid = λ i l. (has_number g i l).0; numbered = λ i l. (has_number g i l).1 }
