use Rattle.std.proofs.Common.{◌≡◌, ◌≢◌, ◌∙◌, ℕ, ◌==◌, Bool, true, false, List, [], ◌∷◌, length, Result, Ok, Err, Some, option_map, string_bytes, codes, sym, ap, subst, refl}
use Rattle.std.proofs.lemmas.Bool.{false≢true}
use Rattle.rec_text.proofs.lemmas.ListLemmas.{is_nil-length}
use Rattle.recu.specs.Answers.{IsTextAt, IsTextAtIf}
use Rattle.recu.proofs.commanding.is_empty_at.Goals as goal

-- a text of no byte is the empty one
none_of : (text : List ℕ) → (length text == 0) ≡ true → text ≡ []
none_of [] is = refl
none_of (byte ∷ text) is = absurd (false≢true (is_nil-length (byte ∷ text) ∙ is))

abbrev ok_is : {E : Type 0} → Result Bool E → Bool
ok_is (Ok x) = x
ok_is (Err e) = false

pub returns-in_ok-text-in-Some-clause-empty : goal.returns-in_ok-text-in-Some-clause-empty
returns-in_ok-text-in-Some-clause-empty g c full =
    subst (λ file. IsTextAtIf g.D.Disk (g.D.Disk.story c.args.disk.now) (option_map string_bytes file) (Some [])) (sym c.in-Some.is) (λ apart.
    let named = c.file_path.ensures (subst (λ p. p ≢ codes "-") (sym c.as_str.ensures.value) apart) ∙ c.as_str.ensures.value in
    let nothing = none_of c.in_ok-text-in-Some.text (ap (λ t. length t == 0) (sym c.as_slice.ensures) ∙ sym c.is_empty.ensures ∙ ap ok_is full) in
    subst (λ p. IsTextAt g.D.Disk (g.D.Disk.story c.args.disk.now) p []) named
    (subst (IsTextAt g.D.Disk (g.D.Disk.story c.args.disk.now) c.file_path.result.now) nothing c.in_ok-text-in-Some.ensures.text) apart)
