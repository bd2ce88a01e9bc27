use Rattle.std.proofs.Common.{refl}
use Rattle.glslpp_html.proofs.Sources.{tag_written}
use Rattle.glslpp_html.proofs.source.Writer.open.Goals as goal

pub returns-clause-written : goal.returns-clause-written
returns-clause-written c = tag_written c.open.result c.args.self.now _ c.requires refl refl c.open.ensures
