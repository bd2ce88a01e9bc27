-- The tokens of a directive's line, as their list and as its entries in preorder.
use Rattle.std.proofs.Common.{◌≡◌, ◌+◌, false, List, [], ◌∷◌, ◌++◌, map, length, refl, ap, sym, ◌∙◌, arith}
use Rattle.std.specs.List.{filter}
use Rattle.std.proofs.lemmas.Bool.{ne_eqb}
use Rattle.std.proofs.lemmas.List.{length-map}
use Rattle.pp_rs.specs.Entry.{Entry as Held, is_outermost}
use Rattle.pp_rs.specs.Preorder.{preorder, deeper, inner, leaf_of}
use Rattle.pp_rs.specs.declared.token.Token.{Token}
use Rattle.pp_rs.specs.declared.token.Location.{Location}
use Rattle.pp_rs.specs.declared.token.TokenValue.{TokenValue}
use Rattle.pp_c.specs.Entries.{in_32_bits}
use Rattle.pp_c.specs.Tokens.{leaf_entry, held_entry, line_of, token_entries}
use Rattle.pp_c.specs.inner.Taking.{outer_entry}

deeper-is_outermost : (e : Held) → is_outermost (deeper e) ≡ false
deeper-is_outermost e = ne_eqb (e.depth + 1) 0 (λ zero. absurd (omega (arith, zero)))

-- what lies deeper is none of them
none_outermost : (es others : List Held) → filter is_outermost (map deeper es ++ others) ≡ filter is_outermost others
none_outermost [] others = refl
none_outermost (e ∷ es) others = rw (deeper-is_outermost e) (none_outermost es others)

entries-outermost : (tokens : List Token) → map held_entry (filter is_outermost (preorder tokens)) ≡ map outer_entry tokens
entries-outermost [] = refl
entries-outermost (t ∷ ts) = rw (none_outermost (inner t.value) (preorder ts)) (ap (λ es. outer_entry t ∷ es) (entries-outermost ts))

-- the entries of a line, by its list
pub line_entries : (value : TokenValue) (tokens : List Token) → preorder tokens ≡ inner value → map held_entry (line_of value) ≡ map outer_entry tokens
line_entries value tokens e = ap (λ es. map held_entry (filter is_outermost es)) (sym e) ∙ entries-outermost tokens

pub line_length : (value : TokenValue) (tokens : List Token) → preorder tokens ≡ inner value → length (line_of value) ≡ length tokens
line_length value tokens e =
    sym (length-map (line_of value) held_entry) ∙ ap length (line_entries value tokens e) ∙ length-map tokens outer_entry

-- a directive with the tokens of its line
pub token_entries_by : (place : Location) (value : TokenValue) (tokens : List Token) → preorder tokens ≡ inner value
    → token_entries place value ≡ leaf_entry place 0 (in_32_bits (length tokens)) (leaf_of value) ∷ map outer_entry tokens
token_entries_by place value tokens e = rw (line_length value tokens e, line_entries value tokens e)

pub length-token_entries : (place : Location) (value : TokenValue) (tokens : List Token) → preorder tokens ≡ inner value
    → length (token_entries place value) ≡ 1 + length tokens
length-token_entries place value tokens e =
    ap length (token_entries_by place value tokens e) ∙ omega (arith, length-map tokens outer_entry)
