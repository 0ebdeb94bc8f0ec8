-- `writing::stand_ins` meets its contract.
use native.Mathlib.Omega.{arith}
use mathlib.Core.Path.{ap, ◌∙◌}
use lib.ListN.{length, get_or}
use Rattle.std.proofs.Common.{rules}
use Rattle.std.specs.Iterator.Adapters.{filter_source}
use Rattle.std.specs.Slice.Iter.{chunks_exact_size, chunks_exact_steps}
use Rattle.std.proofs.lemmas.Iterator.Consumers.{YieldsList-from_filter, count_from_yields_List}
use Rattle.meaning.specs.Fragment.{row_count}
use Rattle.writing.specs.inner.Codes.{bare}
use Rattle.writing.proofs.Chunks.{left_all}
use Rattle.writing.proofs.Codes.{ins_all}
use Rattle.writing.proofs.Counted.{one, one_says, rows_kinds, ins_kept}
use Rattle.writing.proofs.stand_ins.Goals as goal

pub returns : goal.returns
returns c =
    let r = c.args.rows.now in
    let n = row_count (bare r) in
    let f = c.filter.ensures in
    let each = rows_kinds r n 0 (filter_source c.filter.result) (ap chunks_exact_size f.source ∙ c.chunks_exact.ensures.size) (rw (f.source, c.chunks_exact.ensures.rest) (left_all 6 r)) (omega arith) in
    count_from_yields_List {v = λ x. get_or x.now 1 0} c.filter.result _ c.count.ensures.ran (YieldsList-from_filter {steps = chunks_exact_steps} _ one (record { runs = each }) f.closure (λ x b q k. (search rules, search (rules, one_says)))) ∙ ins_kept r n ∙ ap length (ins_all r)
