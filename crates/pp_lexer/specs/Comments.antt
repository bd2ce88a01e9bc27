-- Comments, each replaced by one mark: phase 7 of the logical phases of compilation, GLSL ES 3.20, section 3.10.
use Rattle.std.specs.Prelude.{ℕ, suc, ◌+◌, Bool, false, not, ◌&&◌, ◌||◌, ◌==◌, if◌then◌else◌, List, [], ◌∷◌, map}
use Rattle.pp_lexer.specs.Cursor.{Placed, last_end}
use Rattle.pp_lexer.specs.Lines.{is_newline}
use Rattle.pp_lexer.specs.Cut.{Part, is_empty, cut}
use Rattle.pp_lexer.specs.Surroundings.{begins_with}

abbrev pub is_slash : Placed → Bool
is_slash p = p.char == 47

abbrev pub is_star : Placed → Bool
is_star p = p.char == 42

-- the number of characters before the next newline, or before the end
abbrev pub line_length : List Placed → ℕ
line_length [] = 0
line_length (p ∷ ps) = if is_newline p then 0 else suc (line_length ps)

-- the number of characters up to and with the next `*/`, or up to the end
abbrev pub block_length : List Placed → ℕ
block_length [] = 0
block_length (p ∷ ps) = if is_star p && begins_with is_slash ps then 2 else suc (block_length ps)

-- whether there is a `*/`
abbrev pub has_close : List Placed → Bool
has_close [] = false
has_close (p ∷ ps) = (is_star p && begins_with is_slash ps) || has_close ps

-- The number of characters of the comment at the front, or 0 if there is none. A `//` comment ends before the next
-- newline, and a `/*` comment after the first `*/` that lies wholly after its `/*`; if there is none, the comment ends
-- with the text.
abbrev pub comment_length : List Placed → ℕ
comment_length [] = 0
comment_length (p ∷ []) = 0
comment_length (p ∷ q ∷ ps) =
    if is_slash p && is_slash q then 2 + line_length ps
    else if is_slash p && is_star q then 2 + block_length ps
    else 0

-- whether these, after a comment's first slash, are the rest of a `/*` comment without its `*/`
abbrev pub is_unclosed : List Placed → Bool
is_unclosed [] = false
is_unclosed (q ∷ ps) = is_star q && not (has_close ps)

-- The mark of a comment is a carriage return, which no other character is by now. It has the line of the comment's
-- first slash. Its stretch ends after the comment's last character; if a `/*` comment has no `*/`, at the end of the
-- source.
abbrev pub mark : ℕ → Part Placed → Placed
mark total comment = record {
  char = 13;
  line = comment.first.line;
  end = if is_unclosed comment.others then total else last_end comment.first.end comment.others;
}

-- The characters of a source of this many bytes, with one mark in place of each comment. A part of one character is no
-- comment, since a comment has at least two.
unfoldable pub replaced : ℕ → List Placed → List Placed
replaced total ps = map (λ part. if is_empty part.others then part.first else mark total part) (cut comment_length ps)
