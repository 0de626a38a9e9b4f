use Rattle.std.proofs.Common.{map, rules}
use Rattle.entry_format.proofs.PositionAppend.{found_append}
use Rattle.entry_reader.specs.Reads.{name_of}
use Rattle.entries.proofs.lookup.check_new.Goals as goal
use Rattle.entries.proofs.lookup.check_new.Goals.{then-is_some-via-then-is_some, then-is_some-via-else-is_some+then-is_some-2}

pub returns-then-is_some : goal.returns-then-is_some
returns-then-is_some c =
    let e = found_append (map name_of c.args.earlier.now) (map name_of c.args.later.now) (name_of c.args.name.now) in
    search (rules, e)

pub returns : goal.returns
returns c =
    let e = found_append (map name_of c.args.earlier.now) (map name_of c.args.later.now) (name_of c.args.name.now) in
    search (rules, e)
