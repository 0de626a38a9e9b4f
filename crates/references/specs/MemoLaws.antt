-- The rules of a resolver whose answers are remembered.
use Rattle.std.specs.Prelude.{◌≡◌, ℕ, ◌<◌, ◌≤◌, Some, None, vec_items, vec_len, Option}
use Rattle.std.proofs.Common.{sym, ◌∙◌, ⊎_elim, arith}
use Rattle.std.proofs.lemmas.List.{get_or_default, get_or_past}
use Rattle.std.proofs.lemmas.Bool.{cases_lt}
use Rattle.references.specs.declared.memoization.Memoized.{Memoized}
use Rattle.references.specs.Resolution.{ResolverLaws}
use Rattle.references.specs.Memoization.{memo_references, memo_declarations, memo_names}

module _ {R : Type 0} (names : R → ℕ → Option ℕ) (s : Memoized R) where
  -- past the remembered answers
  pub names_past : (r : ℕ) → vec_len s.answers ≤ r → memo_names names s r ≡ names s.below r
  names_past r h = get_or_past (vec_items s.answers) r (names s.below r) (omega (arith, s.answers.ok.0))

  -- the rules of the resolver below give those of one that remembers its answers
  pub memo_laws : (references declarations : R → ℕ) → ResolverLaws (references s.below) (declarations s.below) (names s.below) → ResolverLaws (memo_references references s) (memo_declarations declarations s) (memo_names names s)
  memo_laws references declarations laws =
      let among : (r d : ℕ) → memo_names names s r ≡ Some d → r < vec_len s.answers → d < memo_declarations declarations s =
      λ r d e h. let k = s.within r d (get_or_default (vec_items s.answers) r None (names s.below r) (omega (arith, s.answers.ok.0)) ∙ e) in omega arith in
      let beyond : (r d : ℕ) → memo_names names s r ≡ Some d → vec_len s.answers ≤ r → d < memo_declarations declarations s =
      λ r d e h. let k = laws.within r d (sym (names_past r h) ∙ e) in omega arith in
      record {
        past_end = λ r h. names_past r (omega arith) ∙ laws.past_end r (omega arith);
        within = λ r d e. ⊎_elim (among r d e) (beyond r d e) (cases_lt r (vec_len s.answers));
      }
