use Rattle.std.proofs.Common.{string_bytes}
use Rattle.glslpp_html.specs.Written.{HasAttributes}
use Rattle.glslpp_html.proofs.tag.push_attributes.Given as goal

-- the attributes so far are written
abbrev pub invariant-loop-attribute : goal.invariant-loop-attribute
invariant-loop-attribute l = HasAttributes (string_bytes l.fn.page) (string_bytes l.page)
