use Rattle.std.proofs.Common.{[], ◌∷◌, ◌++◌, take, None, map, sym, ap, ◌∙◌, arith, rules}
use Rattle.std.proofs.lemmas.List.{take_all, take_more, take_more_set, map-append, places}
use Rattle.plan_files.specs.Encoding.{grant_bytes}
use Rattle.plan_files.proofs.write.entries_of.Goals as goal

pub loop-i-preserved : goal.loop-i-preserved
loop-i-preserved c =
    let row = c.args.row.now in
    let i = c.loop-i.i in (
      search (rules, places),
      take_more_set c.loop-i.entries i c.entry_bytes.result (omega arith)
          ∙ ap (λ l. l ++ c.entry_bytes.result ∷ []) c.loop-i.invariant.1
          ∙ ap (λ b. map grant_bytes (take i row) ++ b ∷ []) c.entry_bytes.ensures
          ∙ sym (ap (map grant_bytes) (take_more row i None (omega arith)) ∙ map-append grant_bytes (take i row) _),
    )

pub returns-clause-written : goal.returns-clause-written
returns-clause-written c =
    let row = c.args.row.now in
    sym (take_all c.loop-i.i c.loop-i.entries (omega arith)) ∙ c.loop-i.invariant.1 ∙ ap (map grant_bytes) (take_all c.loop-i.i row (omega arith))
