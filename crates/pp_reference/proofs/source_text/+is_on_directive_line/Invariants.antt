use Rattle.pp_reference.proofs.source_text.+is_on_directive_line.Given as goal

abbrev pub decreases-is_on_directive_line : goal.decreases-is_on_directive_line
decreases-is_on_directive_line l = l.position
