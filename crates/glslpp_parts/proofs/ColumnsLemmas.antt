-- Columns, counted on from a place that is known.
use Rattle.std.proofs.Common.{◌≡◌, ℕ, ◌+◌, ◌<◌, ◌≤◌, Bool, true, false, List, [], ◌∷◌, ◌++◌, length, take, min, get_or, sym, ◌∙◌, ap, refl, arith}
use Rattle.std.specs.Prelude.{if◌then◌else◌}
use Rattle.std.proofs.lemmas.List.{length-take, take_more, take_min}
use Rattle.pp_lexer.specs.Lines.{is_line_break}
use Rattle.glslpp_parts.specs.Columns.{is_later_byte, column_past, column_after, column_at}

-- on from the column that the first part ends at
pub column_after-append : (column : ℕ) (xs ys : List ℕ) → column_after column (xs ++ ys) ≡ column_after (column_after column xs) ys
column_after-append column [] ys = refl
column_after-append column (x ∷ xs) ys = column_after-append (column_past column x) xs ys

column_choice-le : (column : ℕ) (a b : Bool) → 1 ≤ column → (if a then 1 else if b then column else column + 1) ≤ column + 1
column_choice-le column true b h = omega arith
column_choice-le column false true h = omega arith
column_choice-le column false false h = omega arith

one_le-column_choice : (column : ℕ) (a b : Bool) → 1 ≤ column → 1 ≤ (if a then 1 else if b then column else column + 1)
one_le-column_choice column true b h = omega arith
one_le-column_choice column false true h = h
one_le-column_choice column false false h = omega arith

-- each byte is one column more at most
pub column_after-le : (column : ℕ) (bs : List ℕ) → 1 ≤ column → column_after column bs ≤ column + length bs
column_after-le column [] h = omega arith
column_after-le column (b ∷ bs) h =
    let one : column_past column b ≤ column + 1 = column_choice-le column (is_line_break b) (is_later_byte b) h in
    let more : 1 ≤ column_past column b = one_le-column_choice column (is_line_break b) (is_later_byte b) h in
    let rest : column_after (column_past column b) bs ≤ column_past column b + length bs = column_after-le (column_past column b) bs more in
    omega arith

-- the column of the next byte
pub column_at-next : (text : List ℕ) (i : ℕ) → i < length text → column_at text (i + 1) ≡ column_past (column_at text i) (get_or text i 0)
column_at-next text i h = ap (column_after 1) (take_more text i 0 h) ∙ column_after-append 1 (take i text) (get_or text i 0 ∷ [])

-- a column is at most one more than the bytes before
pub column_at-le : (text : List ℕ) (i : ℕ) → column_at text i ≤ i + 1
column_at-le text i =
    let all : column_after 1 (take i text) ≤ 1 + length (take i text) = column_after-le 1 (take i text) (omega arith) in
    omega (arith, length-take i text)

past_line_end : (column b : ℕ) → is_line_break b ≡ true → column_past column b ≡ 1
past_line_end column b e = rw e refl

-- after a line end it's 1
pub column_at-line_start : (text : List ℕ) (i j : ℕ) → j + 1 ≡ i → j < length text → is_line_break (get_or text j 0) ≡ true → column_at text i ≡ 1
column_at-line_start text i j next h e =
    ap (column_at text) (sym next) ∙ column_at-next text j h ∙ past_line_end (column_at text j) (get_or text j 0) e

-- past the end it's that of the end
pub column_at-end : (text : List ℕ) (i : ℕ) → column_at text (min i (length text)) ≡ column_at text i
column_at-end text i = ap (column_after 1) (take_min i text)
