use Rattle.std.proofs.Common.{string_bytes}
use Rattle.std.specs.Fmt.{decimal}
use Rattle.pp_print.proofs.TextLemmas.{IfOk-equal, error_parts}
use Rattle.pp_print.proofs.ends.error_line.Goals as goal

pub returns : goal.returns
returns c =
    let at = c.args.location in
    IfOk-equal string_bytes c.format.result _ _ (error_parts _ _ (decimal at.start) (decimal at.end) c.name-name.ensures) c.format.ensures.ok
