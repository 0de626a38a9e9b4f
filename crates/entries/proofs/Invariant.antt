-- What is known of every grammar. Assumes nothing.
use Rattle.std.proofs.Common.{◌≡◌, ℕ, ◌+◌, ◌≤◌, false, List, [], ◌∷◌, vec_items, vec_len, ⊎_elim, arith}
use mathlib.Core.Bool.{Bool-set}
use mathlib.Core.HLevel.{×_prop, Unit-prop, ⊥_prop}
use mathlib.Core.Logic.{∥∥₁_elim}
use native.Mathlib.Nat.{ℕ_set}
use Rattle.std.specs.List.{AllByRecursion}
use Rattle.std.proofs.lemmas.List.{length-map}
use Rattle.std.proofs.lemmas.Bool.{cases_lt}
use Rattle.entry_format.specs.Grammars.{symbols}
use Rattle.entry_format.specs.Names.{same_name, Distinct}
use Rattle.entry_format.specs.Reading.{NameModel}
use Rattle.entry_reader.specs.Reads.{name_of}
use Rattle.entries.specs.declared.grammar.Grammar.{Grammar}
use Rattle.entries.specs.declared.production.Production.{Production}
use Rattle.entries.specs.Loaded.{Tiles}
use Rattle.entries.specs.Models.{grammar_of}
use Rattle.entries.proofs.Tiling.{references_count}

tiles_prop : (at : ℕ) (ps : List Production) (n : ℕ) → IsProp (Tiles at ps n)
tiles_prop at [] n = ℕ_set at n
tiles_prop at (p ∷ ps) n = ×_prop (ℕ_set p.first at) (tiles_prop (at + p.len) ps n)

apart_prop : (n : NameModel) (names : List NameModel) → IsProp (AllByRecursion (λ other. same_name n other ≡ false) names)
apart_prop n [] = Unit-prop
apart_prop n (other ∷ names) = ×_prop (Bool-set (same_name n other) false) (apart_prop n names)

distinct_prop : (names : List NameModel) → IsProp (Distinct names)
distinct_prop [] = Unit-prop
distinct_prop (n ∷ names) = ×_prop (apart_prop n names) (distinct_prop names)

module _ (g : Grammar) where
  -- the right sides lie one behind the other
  pub tiles : Tiles 0 (vec_items g.productions) (vec_len g.references)
  tiles = ∥∥₁_elim g.loaded (tiles_prop 0 (vec_items g.productions) (vec_len g.references)) (λ l. l.tiles)

  -- no two symbols have equal names
  pub distinct : Distinct (symbols (grammar_of g))
  distinct = ∥∥₁_elim g.loaded (distinct_prop (symbols (grammar_of g))) (λ l. l.lawful.distinct)

  pub few_terminals : vec_len g.terminals ≤ 63
  few_terminals =
      ⊎_elim
      (λ more. absurd (∥∥₁_elim g.loaded ⊥_prop (λ l. omega (arith, l.lawful.few_terminals, length-map (vec_items g.terminals) name_of, g.terminals.ok.0))))
      (λ few. few)
      (cases_lt 63 (vec_len g.terminals))

  pub few_nonterminals : vec_len g.nonterminals ≤ 64
  few_nonterminals =
      ⊎_elim
      (λ more. absurd (∥∥₁_elim g.loaded ⊥_prop (λ l. omega (arith, l.lawful.few_nonterminals, length-map (vec_items g.nonterminals) name_of, g.nonterminals.ok.0))))
      (λ few. few)
      (cases_lt 64 (vec_len g.nonterminals))

  pub few_references : vec_len g.references ≤ 1024
  few_references =
      ⊎_elim
      (λ more. absurd (∥∥₁_elim g.loaded ⊥_prop (λ l. omega (arith, l.lawful.few_references, references_count g.productions g.references tiles))))
      (λ few. few)
      (cases_lt 1024 (vec_len g.references))
