use Rattle.std.proofs.Common.{codes, refl}
use Rattle.glslpp_html.proofs.Characters.{chars_same}
use Rattle.glslpp_html.proofs.tag.Attribute.beginning.Goals as goal

pub returns-in-Class : goal.returns-in-Class
returns-in-Class c = rw (chars_same (codes " class=\"") refl) refl

pub returns-in-Id : goal.returns-in-Id
returns-in-Id c = rw (chars_same (codes " id=\"") refl) refl

pub returns-in-Title : goal.returns-in-Title
returns-in-Title c = rw (chars_same (codes " title=\"") refl) refl

pub returns-in-TabIndex : goal.returns-in-TabIndex
returns-in-TabIndex c = rw (chars_same (codes " tabindex=\"") refl) refl

pub returns-in-Note : goal.returns-in-Note
returns-in-Note c = rw (chars_same (codes " data-note=\"") refl) refl

pub returns-in-Target : goal.returns-in-Target
returns-in-Target c = rw (chars_same (codes " href=\"#") refl) refl

pub returns-in-Page : goal.returns-in-Page
returns-in-Page c = rw (chars_same (codes " href=\"./") refl) refl
