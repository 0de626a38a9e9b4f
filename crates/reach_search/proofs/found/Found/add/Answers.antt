-- An instance that is not found is put behind the queue, and then marked.
use Rattle.std.proofs.Common.{sym, ◌∙◌, arith}
use Rattle.reach_search.proofs.Adding.{marks_size, queue_size, marked_behind, queued_behind, flags_after, marked_after, queued_after, once_after}
use Rattle.reach_search.proofs.found.Found.add.Goals as goal

pub invariant_of-self : goal.invariant_of-self
invariant_of-self g c =
    let f = c.args.self.now in
    let new = sym c.is_marked.ensures ∙ c.if-not-is_marked.true in
    record {
      size = f.size;
      room = omega (arith, f.room, queue_size f c.requires new);
      flags = f.flags;
      marked = marked_behind f c.requires new;
      queued = queued_behind f c.requires new;
      once = f.once;
    }

pub invariant_of-self-then-not-is_marked : goal.invariant_of-self-then-not-is_marked
invariant_of-self-then-not-is_marked g c =
    let f = c.args.self.now in
    let new = sym c.is_marked.ensures ∙ c.if-not-is_marked.true in
    record {
      size = omega (arith, f.size, marks_size f c.requires new);
      room = omega (arith, f.room, queue_size f c.requires new, marks_size f c.requires new);
      flags = flags_after f c.requires new;
      marked = marked_after f c.requires new;
      queued = queued_after f c.requires new;
      once = once_after f c.requires new;
    }
