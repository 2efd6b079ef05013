use Rattle.std.proofs.Common.{append-nil, ap, ◌∙◌, rules}
use Rattle.std.specs.List.{flat_map}
use Rattle.std.proofs.lemmas.List.Folds.{flat_map-map}
use Rattle.plan_files.specs.Encoding.{grant_bytes}
use Rattle.plan_files.proofs.write.encode_mode.Goals as goal

pub returns-clause-bytes : goal.returns-clause-bytes
returns-clause-bytes c =
    let entries = c.copy_from_slice-2.ensures.after ∙ c.as_flattened.ensures.value ∙ ap (flat_map (λ x. x)) c.entries_of.ensures.written ∙ flat_map-map (λ x. x) grant_bytes c.args.mode.now.row in
    rw (c.copy_from_slice.ensures.after, entries, append-nil (flat_map grant_bytes c.args.mode.now.row)) (search rules)
