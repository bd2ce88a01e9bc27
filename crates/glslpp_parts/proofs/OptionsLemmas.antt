-- Options that are added one after another.
use Rattle.std.proofs.Common.{◌≡◌, ◌∙◌, ◌++◌, ◌∷◌, [], List, ap, append_assoc}
use Rattle.glslpp_parts.specs.Options.{Known}

pub two_added : (old one two : List Known) (a b x y : Known) → one ≡ old ++ x ∷ [] → two ≡ one ++ y ∷ [] → x ≡ a → y ≡ b
    → two ≡ old ++ (a ∷ b ∷ [])
two_added old one two a b x y e f p q =
    f ∙ ap (λ (ks : List Known). ks ++ y ∷ []) e ∙ append_assoc old (x ∷ []) (y ∷ [])
    ∙ ap (λ (k : Known). old ++ (k ∷ y ∷ [])) p ∙ ap (λ (k : Known). old ++ (a ∷ k ∷ [])) q

pub three_added : (old one two three : List Known) (a b c x y z : Known) → one ≡ old ++ x ∷ [] → two ≡ one ++ y ∷ []
    → three ≡ two ++ z ∷ [] → x ≡ a → y ≡ b → z ≡ c → three ≡ old ++ (a ∷ b ∷ c ∷ [])
three_added old one two three a b c x y z e f g p q r =
    g ∙ ap (λ (ks : List Known). ks ++ z ∷ []) (two_added old one two a b x y e f p q) ∙ append_assoc old (a ∷ b ∷ []) (z ∷ [])
    ∙ ap (λ (k : Known). old ++ (a ∷ b ∷ k ∷ [])) r

pub four_added : (old one two three four : List Known) (a b c d x y z w : Known) → one ≡ old ++ x ∷ [] → two ≡ one ++ y ∷ []
    → three ≡ two ++ z ∷ [] → four ≡ three ++ w ∷ [] → x ≡ a → y ≡ b → z ≡ c → w ≡ d → four ≡ old ++ (a ∷ b ∷ c ∷ d ∷ [])
four_added old one two three four a b c d x y z w e f g h p q r s =
    h ∙ ap (λ (ks : List Known). ks ++ w ∷ []) (three_added old one two three a b c x y z e f g p q r)
    ∙ append_assoc old (a ∷ b ∷ c ∷ []) (w ∷ [])
    ∙ ap (λ (k : Known). old ++ (a ∷ b ∷ c ∷ k ∷ [])) s

-- two after four
pub six_added : (old four six : List Known) (a b c d e f : Known) → four ≡ old ++ (a ∷ b ∷ c ∷ d ∷ []) → six ≡ four ++ (e ∷ f ∷ [])
    → six ≡ old ++ (a ∷ b ∷ c ∷ d ∷ e ∷ f ∷ [])
six_added old four six a b c d e f g h =
    h ∙ ap (λ (ks : List Known). ks ++ (e ∷ f ∷ [])) g ∙ append_assoc old (a ∷ b ∷ c ∷ d ∷ []) (e ∷ f ∷ [])
