use Rattle.glslpp_parts.specs.Reading.{values_ahead}
use Rattle.glslpp_parts.proofs.VersionLemmas.{told_profile}
use Rattle.glslpp_parts.proofs.version.read_profile.Goals as goal

pub returns : goal.returns
returns c =
    told_profile c.in_ok-read.read (values_ahead c.args.lexer.now) (values_ahead c.read_next.new.lexer) c.named_profile-profile.result
    c.in_ok-read.ensures.next c.named_profile-profile.ensures
