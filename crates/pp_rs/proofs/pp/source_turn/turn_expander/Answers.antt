use Rattle.std.proofs.Common.{◌∙◌, refl}
use Rattle.pp_model.specs.Emitting.{expansion_limit}
use Rattle.pp_macros.specs.inner.Reader.{of_source}
use Rattle.pp_macros.proofs.open_frames.KnownLemmas.{gathered_known}
use Rattle.pp_macros.proofs.work.CallFallsLemmas.{call_free}
use Rattle.pp_rs.proofs.runs.SourceTurnLemmas.{goes_follow}
use Rattle.pp_rs.proofs.pp.source_turn.turn_expander.Goals as goal

pub returns-in-Call-clause-turns : goal.returns-in-Call-clause-turns
returns-in-Call-clause-turns c =
    goes_follow expansion_limit c.args.expander.now.here c.step_source.new.expander.here c.args.source.now c.step_source.new.source
    c.in-Call.call c.follow_call.new.expander.here c.follow_call.result (rw c.in-Call.is at c.in_ok-read.ensures.turns)
    c.follow_call.ensures.follows

-- after a call nothing is held
pub follow_call-requires : goal.follow_call-requires
follow_call-requires c = record {
  alone = c.step_source.ensures.below ∙ c.requires.alone;
  free = call_free _ _ _ _ _ c.in-Call.call refl (rw c.in-Call.is at c.in_ok-read.ensures.turns);
  known = gathered_known c.in-Call.call c.args.expander.now c.step_source.new.expander (of_source c.args.source.now) (of_source c.step_source.new.source)
      (rw c.in-Call.is at c.in_ok-read.ensures.turns) c.step_source.ensures.below c.requires.known;
}
