-- Texts that a call gives where it finds memory
use Rattle.std.specs.Result.{IsErrAnd}
use Rattle.std.specs.Char.{encode_utf8}
use Rattle.std.specs.Str.{chars, encode_utf8_all, IsUtf8}
use Rattle.std.proofs.Common.{◌≡◌, ℕ, List, [], ◌∷◌, ◌++◌, codes, Option, Some, None, Result, Ok, Err, IfOk, OnOk, subst, ◌∙◌, ap, sym, append_assoc, append-nil, length, get_or, ◌-◌, ◌<◌, ◌≤◌, arith}
use Rattle.std.proofs.Math.Seq.{get_or-append_seam}
use Rattle.std.proofs.lemmas.List.{append_cancel_right, length-append, nil_from_length}
use Rattle.std.proofs.lemmas.Str.{encode_ascii, encodes-append}
use Rattle.pp_rs.specs.Output.{written_lines}
use Rattle.pp_rs.specs.inner.OutputLines.{begun_line}
use Rattle.pp_print.specs.inner.Printing.{spaced}
use Rattle.pp_rs.proofs.runs.SpellingLemmas.{bytes-pushed}

-- a text that is one list is another, where the two are equal
pub IfOk-equal : {A E B : Type 0} (f : A → B) (r : Result A E) (a b : B) → a ≡ b → IfOk r (λ x. f x ≡ a) → IfOk r (λ x. f x ≡ b)
IfOk-equal f (Ok x) a b e h = h ∙ e
IfOk-equal f (Err _) a b e h = h

-- how the line of an error in the source is made of its parts
pub error_parts : (name name' start end : List ℕ) → name ≡ name'
    → codes "error " ++ (name ++ (codes " " ++ (start ++ (codes " " ++ end)))) ≡ codes "error " ++ name' ++ codes " " ++ start ++ codes " " ++ end
error_parts name name' start end e = ap (λ n. codes "error " ++ (n ++ (codes " " ++ (start ++ (codes " " ++ end))))) e ∙ simp append_assoc

-- a fault that is passed on
pub same_fault : {A B E : Type 0} (r : Result A E) (s : Result B E) (x y : E) → r ≡ Err x → IsErrAnd s (λ e. e ≡ x) → s ≡ Err y → r ≡ Err y
same_fault r (Ok b) x y e h f = absurd h
same_fault r (Err z) x y e h f = let same : z ≡ y = cc in cc

-- what is so of a value, where a call gives that value alone
pub IfOk-one : {A E : Type 0} (r : Result A E) (P Q : A → Type 0) (R : Type 0) (only : A) → IfOk r (λ x. (x ≡ only) × P x) → OnOk r R
    → (P only → R → Q only) → IfOk r Q
IfOk-one (Ok x) P Q R only h done goes = subst Q (sym h.0) (goes (subst P h.0 h.1) done)
IfOk-one (Err _) P Q R only h done goes = tt

-- characters that were pushed onto a text, with a space after them, are bytes that were
pub text_pushed : (old new word : List ℕ) → IsUtf8 old → IsUtf8 new → chars new ≡ chars old ++ (word ++ 32 ∷ []) → new ≡ old ++ (encode_utf8_all word ++ 32 ∷ [])
unfolding encode_utf8
text_pushed old new word u v e = bytes-pushed new old (word ++ 32 ∷ []) v u e ∙ ap (λ t. old ++ t) (encodes-append word (32 ∷ []))

-- the text of a line that isn't begun is empty
pub nothing_begun : (begun : Option (List ℕ)) (text rest : List ℕ) → text ≡ spaced begun → length text ≡ 0 → length rest ≤ length text
    → rest ≡ written_lines (begun_line begun)
nothing_begun None text rest e none shorter = nil_from_length rest (omega (arith, none, shorter))
nothing_begun (Some line) text rest e none shorter = absurd (omega (arith, ap length e, length-append line (32 ∷ []), none))

-- a line ends with a newline in place of its last space
pub line_ended : (begun : Option (List ℕ)) (text rest : List ℕ) (last n : ℕ) → text ≡ spaced begun → n ≡ length text → length rest < n
    → text ≡ rest ++ encode_utf8 last → (0 < n → get_or text (n - 1) 0 < 128 → Some last ≡ Some (get_or text (n - 1) 0))
    → rest ++ 10 ∷ [] ≡ written_lines (begun_line begun)
line_ended None text rest last n e len shorter cut ascii = absurd (omega (arith, ap length e, len, shorter))
line_ended (Some line) text rest last n e len shorter cut ascii =
    let at : n - 1 ≡ length line = omega (arith, ap length e, length-append line (32 ∷ []), len) in
    let there : get_or text (n - 1) 0 ≡ 32 = ap (λ t. get_or t (n - 1) 0) e ∙ ap (λ k. get_or (line ++ 32 ∷ []) k 0) at ∙ get_or-append_seam line 32 [] 0 in
    let found : Some last ≡ Some (get_or text (n - 1) 0) = ascii (omega (arith, len, shorter)) (omega (arith, there)) in
    let is : last ≡ 32 = (let same : last ≡ get_or text (n - 1) 0 = cc in same ∙ there) in
    ap (λ t. t ++ 10 ∷ []) (append_cancel_right rest line (32 ∷ []) (sym (rw is at cut ∙ ap (λ t. rest ++ t) (encode_ascii 32 (omega arith))) ∙ e))
    ∙ sym (append-nil (line ++ 10 ∷ []))
