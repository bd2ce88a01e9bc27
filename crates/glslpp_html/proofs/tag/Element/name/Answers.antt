use Rattle.std.proofs.Common.{codes, refl}
use Rattle.glslpp_html.proofs.Characters.{chars_same}
use Rattle.glslpp_html.proofs.tag.Element.name.Goals as goal

pub returns-in-Span : goal.returns-in-Span
returns-in-Span c = rw (chars_same (codes "span") refl) refl

pub returns-in-Block : goal.returns-in-Block
returns-in-Block c = rw (chars_same (codes "div") refl) refl

pub returns-in-Heading : goal.returns-in-Heading
returns-in-Heading c = rw (chars_same (codes "h2") refl) refl

pub returns-in-Link : goal.returns-in-Link
returns-in-Link c = rw (chars_same (codes "a") refl) refl

pub returns-in-Details : goal.returns-in-Details
returns-in-Details c = rw (chars_same (codes "details") refl) refl

pub returns-in-Summary : goal.returns-in-Summary
returns-in-Summary c = rw (chars_same (codes "summary") refl) refl
