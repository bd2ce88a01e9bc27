-- The lines of tokens are the one cut into longest runs
use Rattle.std.proofs.Common.{◌≡◌, ◌&&◌, Bool, true, false, if◌then◌else◌, IsTrue, List, [], ◌∷◌, ◌++◌, All, refl, sym, ap, subst, ◌∙◌}
use Rattle.std.specs.Prelude.{MatchBool}
use Rattle.std.specs.List.{flat_map}
use Rattle.std.proofs.lemmas.List.Elements.{All-nil, All-cons, All-head, All-tail}
use Rattle.pp_rs.specs.TokenValue.{is_ordinary}
use Rattle.pp_rs.specs.declared.token.Token.{Token}
use Rattle.pp_rs.specs.Output.{AllOrdinary, begins_ordinary, put_before, lines_of}
use Rattle.pp_print.specs.OutputLaws.{IsLine, AreApart, IsCut, LinesAreTheCut}

abbrev IsOrdinaryToken : Token → Type 0
IsOrdinaryToken t = IsTrue (is_ordinary t.value)

abbrev in_a_row : List (List Token) → List Token
in_a_row lines = flat_map (λ line. line) lines

-- a token in front of lines is in front of their tokens
row_before : (t : Token) (lines : List (List Token)) → in_a_row (put_before t lines) ≡ t ∷ in_a_row lines
row_before t [] = refl
row_before t (line ∷ lines) = row_at (is_ordinary t.value && begins_ordinary line)
  where
    row_at : (b : Bool) → in_a_row (if b then (t ∷ line) ∷ lines else (t ∷ []) ∷ line ∷ lines) ≡ t ∷ in_a_row (line ∷ lines)
    row_at true = refl
    row_at false = refl

single_at : (b : Bool) → MatchBool b (AllOrdinary []) (◌≡◌ {A = List Token} [] [])
single_at true = All-nil IsOrdinaryToken
single_at false = refl

-- a token by itself is a line
single : (t : Token) → IsLine (t ∷ [])
single t = single_at (is_ordinary t.value)

-- a line that begins with an ordinary token holds no other
line_ordinary : (line : List Token) → IsLine line → begins_ordinary line ≡ true → AllOrdinary line
line_ordinary [] h b = absurd h
line_ordinary (t ∷ ts) h b = All-cons IsOrdinaryToken t ts b (rw b at h)

-- lines stay apart after another first line that begins alike
apart_alike : (line other : List Token) (lines : List (List Token)) → begins_ordinary other ≡ begins_ordinary line → AreApart (line ∷ lines)
    → AreApart (other ∷ lines)
apart_alike line other [] e h = tt
apart_alike line other (next ∷ lines) e (h, hs) = (ap (λ b. b && begins_ordinary next) e ∙ h, hs)

-- a token in front of lines keeps them lines
module _ (t : Token) (line : List Token) (lines : List (List Token)) (each : All IsLine (line ∷ lines)) (apart : AreApart (line ∷ lines)) where
  longer : is_ordinary t.value ≡ true → begins_ordinary line ≡ true → All IsLine ((t ∷ line) ∷ lines) × AreApart ((t ∷ line) ∷ lines)
  longer a b =
      let first : IsLine (t ∷ line) = rw a (line_ordinary line (All-head IsLine line lines each) b) in
      (All-cons IsLine (t ∷ line) lines first (All-tail IsLine line lines each), apart_alike line (t ∷ line) lines (a ∙ sym b) apart)

  another : (is_ordinary t.value && begins_ordinary line) ≡ false → All IsLine ((t ∷ []) ∷ line ∷ lines) × AreApart ((t ∷ []) ∷ line ∷ lines)
  another e = (All-cons IsLine (t ∷ []) (line ∷ lines) (single t) each, (e, apart))

  lines_before : (a b : Bool) → is_ordinary t.value ≡ a → begins_ordinary line ≡ b → All IsLine (put_before t (line ∷ lines))
      × AreApart (put_before t (line ∷ lines))
  lines_before true true e f = rw (e, f) (longer e f)
  lines_before true false e f = let both : (is_ordinary t.value && begins_ordinary line) ≡ false = rw (e, f) refl in rw both (another both)
  lines_before false b e f = let both : (is_ordinary t.value && begins_ordinary line) ≡ false = rw e refl in rw both (another both)

are_lines : (ts : List Token) → All IsLine (lines_of ts) × AreApart (lines_of ts)
are_lines [] = (All-nil IsLine, tt)
are_lines (t ∷ ts) = before (lines_of ts) (are_lines ts)
  where
    before : (lines : List (List Token)) → All IsLine lines × AreApart lines → All IsLine (put_before t lines) × AreApart (put_before t lines)
    before [] h = (All-cons IsLine (t ∷ []) [] (single t) (All-nil IsLine), tt)
    before (line ∷ lines) (each, apart) = lines_before t line lines each apart (is_ordinary t.value) (begins_ordinary line) refl refl

row_of : (ts : List Token) → in_a_row (lines_of ts) ≡ ts
row_of [] = refl
row_of (t ∷ ts) = row_before t (lines_of ts) ∙ ap (λ rest. t ∷ rest) (row_of ts)

-- the lines of a line in front of others
line_in_front : (t : Token) (ts rest : List Token) (lines : List (List Token)) → lines_of rest ≡ lines → IsLine (t ∷ ts)
    → AreApart ((t ∷ ts) ∷ lines) → lines_of ((t ∷ ts) ++ rest) ≡ (t ∷ ts) ∷ lines
line_in_front t [] rest [] e h apart = ap (λ lines. put_before t lines) e
line_in_front t [] rest (line ∷ lines) e h apart = ap (λ lines. put_before t lines) e ∙ rw (apart.0) refl
line_in_front t (u ∷ us) rest lines e h apart = in_front (is_ordinary t.value) refl (line_in_front u us rest lines e)
  where
    in_front : (b : Bool) → is_ordinary t.value ≡ b → (IsLine (u ∷ us) → AreApart ((u ∷ us) ∷ lines)
        → lines_of ((u ∷ us) ++ rest) ≡ (u ∷ us) ∷ lines) → lines_of ((t ∷ u ∷ us) ++ rest) ≡ (t ∷ u ∷ us) ∷ lines
    in_front true a after =
        let others : AllOrdinary (u ∷ us) = rw a at h in
        let b : is_ordinary u.value ≡ true = All-head IsOrdinaryToken u us others in
        let line : IsLine (u ∷ us) = rw b (All-tail IsOrdinaryToken u us others) in
        ap (λ those. put_before t those) (after line (apart_alike (t ∷ u ∷ us) (u ∷ us) lines (b ∙ sym a) apart)) ∙ rw (a, b) refl
    in_front false a after = let none = rw a at h in cc

-- no other lines are such a cut
again : (lines : List (List Token)) → All IsLine lines → AreApart lines → lines_of (in_a_row lines) ≡ lines
again [] each apart = refl
again ([] ∷ lines) each apart = absurd (All-head IsLine [] lines each)
again ((t ∷ ts) ∷ lines) each apart =
    line_in_front t ts (in_a_row lines) lines (again lines (All-tail IsLine (t ∷ ts) lines each) (rest_apart (t ∷ ts) lines apart))
    (All-head IsLine (t ∷ ts) lines each) apart
  where
    rest_apart : (line : List Token) (lines : List (List Token)) → AreApart (line ∷ lines) → AreApart lines
    rest_apart line [] h = tt
    rest_apart line (other ∷ lines) h = h.1

the_cut : (tokens : List Token) (lines : List (List Token)) → lines ≡ lines_of tokens → IsCut tokens lines
the_cut tokens lines e =
    let cut : IsCut tokens (lines_of tokens) = record { whole = row_of tokens; each = (are_lines tokens).0; apart = (are_lines tokens).1 } in
    subst (λ those. IsCut tokens those) (sym e) cut

pub lines-are-the-cut : LinesAreTheCut
lines-are-the-cut tokens lines = (λ cut. sym (again lines cut.each cut.apart) ∙ ap lines_of cut.whole, the_cut tokens lines)
