-- Tokens between marks, and what stands after them.
use Rattle.std.proofs.Common.{◌≡◌, List, [], ◌∷◌, ◌++◌, ◌∙◌, sym, ap, append_assoc}
use Rattle.alb_lex.specs.declared.token.Token.{Token}

pub regroup_one : (us rest : List Token) (c : Token) → (us ++ c ∷ []) ++ rest ≡ us ++ (c ∷ rest)
regroup_one us rest c = append_assoc us (c ∷ []) rest

pub regroup_two : (us vs rest : List Token) (a c : Token) → (us ++ a ∷ vs ++ c ∷ []) ++ rest ≡ us ++ (a ∷ (vs ++ (c ∷ rest)))
regroup_two us vs rest a c = append_assoc (us ++ a ∷ vs) (c ∷ []) rest ∙ append_assoc us (a ∷ vs) (c ∷ rest)

pub regroup_three : (us vs ws rest : List Token) (a b c : Token) → (us ++ a ∷ vs ++ b ∷ ws ++ c ∷ []) ++ rest ≡ us ++ (a ∷ (vs ++ (b ∷ (ws ++ (c ∷ rest)))))
regroup_three us vs ws rest a b c =
    append_assoc (us ++ a ∷ vs ++ b ∷ ws) (c ∷ []) rest ∙ append_assoc (us ++ a ∷ vs) (b ∷ ws) (c ∷ rest) ∙ append_assoc us (a ∷ vs) (b ∷ (ws ++ (c ∷ rest)))

pub between_one : (ts us rest : List Token) (c : Token) → ts ≡ us ++ (c ∷ rest) → ts ≡ (us ++ c ∷ []) ++ rest
between_one ts us rest c p = p ∙ sym (regroup_one us rest c)

pub between_two : (ts us xs vs rest : List Token) (a c : Token) → ts ≡ us ++ (a ∷ xs) → xs ≡ vs ++ (c ∷ rest) → ts ≡ (us ++ a ∷ vs ++ c ∷ []) ++ rest
between_two ts us xs vs rest a c p q = p ∙ ap (λ y. us ++ (a ∷ y)) q ∙ sym (regroup_two us vs rest a c)

pub between_three : (ts us xs vs ys ws rest : List Token) (a b c : Token) → ts ≡ us ++ (a ∷ xs) → xs ≡ vs ++ (b ∷ ys) → ys ≡ ws ++ (c ∷ rest)
    → ts ≡ (us ++ a ∷ vs ++ b ∷ ws ++ c ∷ []) ++ rest
between_three ts us xs vs ys ws rest a b c p q r = p ∙ ap (λ y. us ++ (a ∷ y)) (q ∙ ap (λ y. vs ++ (b ∷ y)) r) ∙ sym (regroup_three us vs ws rest a b c)
