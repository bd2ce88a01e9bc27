use Rattle.pp_reference.proofs.source_text.+has_live_text_before.Given as goal

abbrev pub decreases-has_live_text_before : goal.decreases-has_live_text_before
decreases-has_live_text_before l = l.position
