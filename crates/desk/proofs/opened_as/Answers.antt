-- `desk::opened_as` meets its contract.
use Rattle.desk.proofs.Calling.{opened_as_lem}
use Rattle.desk.proofs.opened_as.Goals as goal

pub returns : goal.returns
returns c = rw c.desk_fresh.ensures (opened_as_lem c.args.layout.now _ c.args.entries c.args.number c.copy_from_slice.ensures.after)
