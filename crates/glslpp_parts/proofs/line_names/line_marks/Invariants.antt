use denote.Shadow.{shadow}
use denote.Text.{Utf8}
use Rattle.glslpp_parts.proofs.line_names.line_marks.Given as goal

-- the last label is text
abbrev pub invariant-loop-line : goal.invariant-loop-line
invariant-loop-line l = shadow (Utf8 l.label)
