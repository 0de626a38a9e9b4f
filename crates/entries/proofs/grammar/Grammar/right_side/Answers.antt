use Rattle.std.proofs.Common.{◌≡◌, ◌+◌, ◌-◌, ◌≤◌, map, take, drop, Some, vec_items, vec_len, sym, refl, ap, ◌∙◌, arith, rules}
use Rattle.std.specs.Option.{option_map}
use Rattle.std.proofs.lemmas.Option.{slice_get-map, slice_get_read}
use Rattle.entry_reader.specs.Reads.{name_of}
use Rattle.entries.specs.Loaded.{production_of}
use Rattle.entries.proofs.Invariant.{tiles, few_references}
use Rattle.entries.proofs.Tiling.{tile_within}
use Rattle.entries.proofs.grammar.Grammar.right_side.Goals as goal

-- the right side lies within the references
within : (c : goal.After-deref-2) → c.in_ok-production.production.now.first + c.in_ok-production.production.now.len ≤ vec_len c.args.self.now.references
within c =
    let g = c.args.self.now in
    let here = c.in_ok-production.ensures.lookup in
    let h = tile_within 0 c.deref.result.now (vec_len g.references) c.args.production c.in_ok-production.production.now (rw c.deref.ensures.value (tiles g)) here.3.0 in
    rw (sym here.1) at h

pub overflow_add-result : goal.overflow_add-result
overflow_add-result c = let h = within c in search (rules, h)

pub offset_bounds-deref-production : goal.offset_bounds-deref-production
offset_bounds-deref-production c =
    let h = within c in
    let few = few_references c.args.self.now in
    let small : c.in_ok-production.production.now.first ≤ 1024 = omega arith in
    search (rules, small)

pub slice_bounds-result-end : goal.slice_bounds-result-end
slice_bounds-result-end c = let h = within c in search (rules, h)

pub returns : goal.returns
returns c =
    let g = c.args.self.now in
    let p = c.in_ok-production.production.now in
    let size : p.first + p.len - p.first ≡ p.len = omega arith in
    let model = production_of (vec_items g.references) in
    let look = c.in_ok-production.ensures.lookup in
    let here = slice_get_read c.deref.result.now _ c.args.production p refl look.3.0 look.1 in
    (λ k. Some (map name_of (take (size k) (drop p.first (c.deref-2.ensures.value k)))))
    ∙ sym (ap (option_map (λ q. q.right)) (slice_get-map model (vec_items g.productions) c.args.production ∙ ap (option_map model) (rw c.deref.ensures.value at here)))
