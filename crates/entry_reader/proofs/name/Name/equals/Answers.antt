use Rattle.std.proofs.Common.{◌≡◌, ℕ, List, take, Decides, sym, ap, ◌∙◌, subst}
use Rattle.std.proofs.lemmas.Slice.Eq.{bytes_eq-Decides, slice_eq-Decides}
use Rattle.std.proofs.lemmas.List.{take_min}
use Rattle.std.proofs.lemmas.Bool.Decides.{same_from_decides, Decides-eqb}
use Rattle.entry_format.proofs.Equality.{name_equality}
use Rattle.entry_format.specs.Names.{EqualTexts, same_text}
use Rattle.entry_reader.proofs.name.Name.equals.Goals as goal

-- the result is the test
same : (c : goal.After-eq) → c.eq.result ≡ same_text c.args.self.now.text.now c.args.other.now.text.now
unfolding same_text
same c =
    let a = ap (λ n. take n c.as_bytes-a.result.now) c.min-n.ensures ∙ take_min 16 _ ∙ ap (take 16) c.as_bytes-a.ensures.value in
    let b = ap (λ m. take m c.as_bytes-b.result.now) c.min-m.ensures ∙ take_min 16 _ ∙ ap (take 16) c.as_bytes-b.ensures.value in
    let P : List ℕ × List ℕ → Type 0 = λ p. Decides c.eq.result (p.0 ≡ p.1) in
    same_from_decides _ _ (subst P (λ k. (a k, b k)) (slice_eq-Decides Decides-eqb _ _ _ c.eq.ensures)) (bytes_eq-Decides _ _)

pub returns : goal.returns
returns c =
    let a = c.args.self.now.text.now in
    let b = c.args.other.now.text.now in
    record {
      value = same c;
      decides = subst (λ r. Decides r (EqualTexts a b)) (sym (same c)) (name_equality.decides a b);
      equivalence = name_equality;
    }
