use Rattle.std.proofs.Common.{None, arith, rules}
use Rattle.std.proofs.lemmas.List.FromFn.{fill_by_all}
use Rattle.records.specs.Layout.{entry_at, grant_in, row_in}
use Rattle.lines.proofs.FromFn.{each_from_fn}
use Rattle.records.proofs.record.grants_in.Goals as goal

pub returns : goal.returns
unfolding row_in
returns c =
    fill_by_all (λ k. grant_in (entry_at c.args.bytes.now k)) c.from_fn.result 16 None c.from_fn.ensures.items.long
    (λ k l. each_from_fn _ _ (λ i. grant_in (entry_at c.args.bytes.now i)) (λ i y q call. search rules) c.from_fn.result 0 16 c.from_fn.ensures.items.each k None (omega arith) (omega arith))
