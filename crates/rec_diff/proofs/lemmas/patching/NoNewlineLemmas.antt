-- Bytes without a newline, put together.
use Rattle.std.proofs.Common.{◌≡◌, ◌∙◌, ℕ, cond, eqb, Bool, true, false, List, [], ◌∷◌}
use Rattle.std.proofs.Common.{◌++◌, sym, subst}
use Rattle.std.specs.Prelude.{reverse}
use Rattle.std.proofs.lemmas.Bool.{eq-eqb, false≢true}
use Rattle.std.proofs.lemmas.List.{reverse-append}
use Rattle.rec_text.specs.Lines.{HasNoNewline}

pub HasNoNewline-append : (s t : List ℕ) → HasNoNewline s → HasNoNewline t → HasNoNewline (s ++ t)
HasNoNewline-append [] t p q = q
HasNoNewline-append (b ∷ bs) t p q = (p.0, HasNoNewline-append bs t p.1 q)

pub plain_first : (b : ℕ) (bs : List ℕ) → eqb b 10 ≡ false → HasNoNewline bs → HasNoNewline (b ∷ bs)
plain_first b bs plain rest = ((λ is. false≢true (sym plain ∙ eq-eqb b 10 is)), rest)

pub HasNoNewline-reverse : (s : List ℕ) → HasNoNewline s → HasNoNewline (reverse s)
HasNoNewline-reverse [] p = tt
HasNoNewline-reverse (b ∷ bs) p = subst HasNoNewline (sym (reverse-append (b ∷ []) bs)) (HasNoNewline-append (reverse bs) (b ∷ []) (HasNoNewline-reverse bs p.1) (p.0, tt))

pub HasNoNewline-cond : (b : Bool) (s t : List ℕ) → HasNoNewline s → HasNoNewline t → HasNoNewline (cond b s t)
HasNoNewline-cond true s t p q = p
HasNoNewline-cond false s t p q = q
