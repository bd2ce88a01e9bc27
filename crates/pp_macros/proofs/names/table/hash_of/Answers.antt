use Rattle.std.proofs.Common.{◌∙◌, ap, fold}
use Rattle.std.proofs.lemmas.List.{take_all}
use Rattle.std.proofs.lemmas.Str.{encodes-chars}
use Rattle.pp_macros.specs.inner.NamePlaces.{hash_of, hash_step}
use Rattle.pp_macros.proofs.names.table.hash_of.Goals as goal

pub returns : goal.returns
unfolding hash_of
returns c =
    let all = take_all c.loop-byte.byte-index c.as_bytes-bytes.result.now c.loop-byte-test.false in
    rw (encodes-chars c.args.name.now c.utf8.name)
    (c.loop-byte.invariant ∙ ap (fold hash_step 0x811c9dc5) (all ∙ c.as_bytes-bytes.ensures.value))
