-- The names that the language keeps for itself.
use Rattle.std.proofs.Common.{◌≡◌, ◌∙◌, refl, sym, ap, rules, ℕ, List, Bool, true, ◌++◌, ◌||◌, take, drop}
use Rattle.std.specs.Prelude.{codes}
use Rattle.std.specs.List.{starts_with}
use Rattle.std.specs.Str.{chars, IsUtf8}
use Rattle.std.specs.Cmp.Lexicographic.{same_text}
use Rattle.std.proofs.Math.Bool.{or-false}
use Rattle.std.proofs.Math.Dec.{eqb}
use Rattle.std.proofs.lemmas.Bool.Decides.{Decides-eqb, same_from_decides}
use Rattle.std.proofs.lemmas.List.{take-append-drop}
use Rattle.std.proofs.lemmas.Slice.Eq.{starts_is}
use Rattle.std.proofs.lemmas.Str.{chars-append, chars-IsAscii, encodes-chars, encodes-append, IsUtf8-from_ascii}
use lib.Utf8.{encodes}
use Rattle.pp_model.specs.Names.{Name, is_in, is_same_name}
use Rattle.pp_model.specs.DefineLines.{own_names}

start-chars : chars (codes "GL_") ≡ codes "GL_"
start-chars = chars-IsAscii (codes "GL_") (search rules)

start-utf8 : IsUtf8 (codes "GL_")
start-utf8 = IsUtf8-from_ascii (codes "GL_") (search rules)

-- a text that begins with these bytes begins with these characters
characters_begin : (bs : List ℕ) → starts_with eqb bs (codes "GL_") ≡ true → is_same_name (take 3 (chars bs)) (codes "GL_") ≡ true
characters_begin bs begins =
    let cut : bs ≡ codes "GL_" ++ drop 3 bs = (starts_is Decides-eqb bs (codes "GL_") _ refl).0 begins in
    let there : chars bs ≡ codes "GL_" ++ chars (drop 3 bs) =
    ap chars cut ∙ chars-append (codes "GL_") (drop 3 bs) start-utf8 ∙ ap (λ cs. cs ++ chars (drop 3 bs)) start-chars in
    ap (λ cs. is_same_name (take 3 cs) (codes "GL_")) there

-- and the other way round
bytes_begin : (bs : List ℕ) → IsUtf8 bs → is_same_name (take 3 (chars bs)) (codes "GL_") ≡ true → starts_with eqb bs (codes "GL_") ≡ true
bytes_begin bs utf8 begins =
    let rest = drop 3 (chars bs) in
    let start : take 3 (chars bs) ≡ codes "GL_" = same_text (take 3 (chars bs)) (codes "GL_") (sym begins) in
    let cut : chars bs ≡ codes "GL_" ++ rest = sym (take-append-drop 3 (chars bs)) ∙ ap (λ cs. cs ++ rest) start in
    let bytes : encodes (codes "GL_") ≡ codes "GL_" = ap encodes (sym start-chars) ∙ encodes-chars (codes "GL_") start-utf8 in
    let there : bs ≡ codes "GL_" ++ encodes rest =
    sym (encodes-chars bs utf8) ∙ ap encodes cut ∙ encodes-append (codes "GL_") rest ∙ ap (λ cs. cs ++ encodes rest) bytes in
    (starts_is Decides-eqb bs (codes "GL_") _ refl).1 (encodes rest) there

pub begins_same : (bs : List ℕ) → IsUtf8 bs → starts_with eqb bs (codes "GL_") ≡ is_same_name (take 3 (chars bs)) (codes "GL_")
begins_same bs utf8 =
    same_from_decides (starts_with eqb bs (codes "GL_")) (is_same_name (take 3 (chars bs)) (codes "GL_"))
    (characters_begin bs, bytes_begin bs utf8) (λ h. h, λ h. h)

-- the names of the list word by word
abbrev pub among_words : Name → Bool
among_words name =
    is_same_name name (chars (codes "defined")) || (is_same_name name (chars (codes "__LINE__"))
    || (is_same_name name (chars (codes "__FILE__")) || is_same_name name (chars (codes "__VERSION__"))))

pub in_own_names : (name : Name) → is_in name own_names ≡ among_words name
unfolding chars
in_own_names name =
    ap (λ b. is_same_name name (codes "defined") || (is_same_name name (codes "__LINE__") || (is_same_name name (codes "__FILE__") || b)))
    (or-false (is_same_name name (codes "__VERSION__")))
