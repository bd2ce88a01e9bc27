use Rattle.std.proofs.Common.{refl}
use Rattle.glslpp_html.proofs.Sources.{tag_written}
use Rattle.glslpp_html.proofs.source.Writer.close.Goals as goal

pub returns-clause-written : goal.returns-clause-written
returns-clause-written c = tag_written c.close.result c.args.self.now _ c.requires refl refl c.close.ensures
