-- Hunks are widened to whole lines.
use Rattle.std.proofs.Common.{◌≡◌, ◌≢◌, ◌∙◌, ℕ, ◌+◌, ◌-◌, ◌≤◌, true, false, cond, not, eqb, ◌&&◌, List, [], ◌∷◌, ◌++◌, length, map, take, drop, refl, sym, ap, ap₂, subst, inl, inr}
use Rattle.std.proofs.Common.{append_assoc, append-nil, length-append, length-drop, arith}
use Rattle.std.specs.List.{between}
use Rattle.std.specs.Str.{bytes_eq}
use Rattle.std.proofs.lemmas.Bool.{and_cases, cases_Bool, cond-true, cond-false, eq-eqb, ne_eqb, false≢true}
use Rattle.std.proofs.lemmas.List.{length-take-le, map-append, take-append-drop}
use Rattle.std.proofs.lemmas.List.Edits.{between_none, length-between}
use Rattle.rec_text.specs.Bytes.{is_nil, ends_newline}
use Rattle.rec_text.specs.Lines.{HasNoNewline, BeginsWithLine}
use Rattle.rec_text.proofs.lemmas.ListLemmas.{bytes_eq-self, same_bytes}
use Rattle.rec_diff.specs.declared.turn.Place.{Place}
use Rattle.rec_diff.specs.declared.turn.Turn.{Turn}
use Rattle.rec_diff.specs.declared.lining.Lining.{Lining}
use Rattle.rec_diff.specs.Changes.{Stretch, put_stays, put_turns, joined}
use Rattle.rec_diff.specs.Lines.{at_line}
use Rattle.rec_diff.specs.WholeLines.{closed, lined_stay, lined_turn, same_start, same_end}
use Rattle.rec_diff.specs.proving.Turns.{AreAll, AreIn, Closes, IsLining, IsOpenFrom, IsTrimmed, PutsTurn, Reads, Turns, moved, open_new, open_old, site, site_if, site_of}
use Rattle.rec_diff.specs.proving.Turns.{Site, sites_from, so_far, turn_sites}
use Rattle.rec_diff.proofs.lemmas.ShareLemmas.{starts_share, ends_share, start_fits, start_fits_new, start_same, end_fits, end_fits_new}
use Rattle.rec_diff.proofs.lemmas.PlaceLemmas.{take_then, between_then, between_from, cut_order, cut_prefix, cut_part, Stands, stands_first, stands_next}
use Rattle.rec_diff.proofs.lemmas.PartLemmas.{turn_sites_is, put_stays-put_stays, put_turns-put_turns, sites_turn_stays, sites_turn_end, joined-closed_same}
use Rattle.rec_diff.proofs.lemmas.PartLemmas.{joined-closed_apart}

-- ---- parts of whole lines

pub lined_stay-append : (t u : List ℕ) (rest : List ℕ → List ℕ → List Stretch) (old new : List ℕ)
    → lined_stay (t ++ u) rest old new ≡ lined_stay t (lined_stay u rest) old new
lined_stay-append [] u rest old new = refl
lined_stay-append (b ∷ bs) u rest old new =
    ap₂ (λ x y. cond (eqb b 10) (closed (old ++ b ∷ []) (new ++ b ∷ []) x) y)
    (lined_stay-append bs u rest [] []) (lined_stay-append bs u rest (old ++ b ∷ []) (new ++ b ∷ []))

lined_stay-plain : (t : List ℕ) → HasNoNewline t → (rest : List ℕ → List ℕ → List Stretch) (old new : List ℕ) → lined_stay t rest old new ≡ rest (old ++ t) (new ++ t)
lined_stay-plain [] plain rest old new = ap₂ rest (sym (append-nil old)) (sym (append-nil new))
lined_stay-plain (b ∷ bs) plain rest old new =
    cond-false (eqb b 10) _ _ (ne_eqb b 10 plain.0) ∙ lined_stay-plain bs plain.1 rest (old ++ b ∷ []) (new ++ b ∷ [])
    ∙ ap₂ rest (append_assoc old (b ∷ []) bs) (append_assoc new (b ∷ []) bs)

lined_stay-line : (line : List ℕ) → HasNoNewline line → (rest : List ℕ → List ℕ → List Stretch) (old new : List ℕ)
    → lined_stay (line ++ 10 ∷ []) rest old new ≡ closed (old ++ (line ++ 10 ∷ [])) (new ++ (line ++ 10 ∷ [])) (rest [] [])
lined_stay-line [] plain rest old new = refl
lined_stay-line (b ∷ bs) plain rest old new =
    cond-false (eqb b 10) _ _ (ne_eqb b 10 plain.0) ∙ lined_stay-line bs plain.1 rest (old ++ b ∷ []) (new ++ b ∷ [])
    ∙ ap₂ (λ x y. closed x y (rest [] [])) (append_assoc old (b ∷ []) (bs ++ 10 ∷ [])) (append_assoc new (b ∷ []) (bs ++ 10 ∷ []))

joined-lines : (t u : List ℕ) (rest : List ℕ → List ℕ → List Stretch) → ends_newline t ≡ true → joined (lined_stay t rest u u) ≡ put_stays (u ++ t) (joined (rest [] []))
joined-lines [] u rest ends = absurd (false≢true ends)
joined-lines (b ∷ []) u rest ends =
    ap joined (cond-true (eqb b 10) _ _ ends) ∙ joined-closed_same (u ++ b ∷ []) (u ++ b ∷ []) (rest [] []) (bytes_eq-self (u ++ b ∷ []))
joined-lines (b ∷ c ∷ cs) u rest ends = elim (cases_Bool (eqb b 10)) [
  | inl e ↦
      ap joined (cond-true (eqb b 10) _ _ e)
      ∙ joined-closed_same (u ++ b ∷ []) (u ++ b ∷ []) (lined_stay (c ∷ cs) rest [] []) (bytes_eq-self (u ++ b ∷ []))
      ∙ ap (put_stays (u ++ b ∷ [])) (joined-lines (c ∷ cs) [] rest ends)
      ∙ put_stays-put_stays (u ++ b ∷ []) (c ∷ cs) (joined (rest [] [])) ∙ ap (λ t. put_stays t (joined (rest [] []))) (append_assoc u (b ∷ []) (c ∷ cs))
  | inr e ↦
      ap joined (cond-false (eqb b 10) _ _ e) ∙ joined-lines (c ∷ cs) (u ++ b ∷ []) rest ends
      ∙ ap (λ t. put_stays t (joined (rest [] []))) (append_assoc u (b ∷ []) (c ∷ cs))
]

lines_stay : (t : List ℕ) (rest : List ℕ → List ℕ → List Stretch) → at_line t ≡ true → joined (lined_stay t rest [] []) ≡ put_stays t (joined (rest [] []))
lines_stay [] rest ends = refl
lines_stay (b ∷ bs) rest ends = joined-lines (b ∷ bs) [] rest ends

-- ---- places

sites_turn_some : (f g o n t : List ℕ) (cs : List Stretch) → is_nil t ≡ false
    → sites_from f g (put_turns o n (put_stays t cs)) ≡ turn_sites f g o n ++ sites_from ((f ++ o) ++ t) ((g ++ n) ++ t) cs
sites_turn_some f g o n [] cs some = absurd (false≢true (sym some))
sites_turn_some f g o n (b ∷ bs) cs some = sites_turn_stays f g o n b bs cs

module _ (before after : List ℕ) where
  pub AreIn-weaker : (old new old_to new_to : ℕ) → old ≤ old_to → new ≤ new_to → (ts : List Turn) → AreIn before after old_to new_to ts → AreIn before after old new ts
  AreIn-weaker old new old_to new_to p q [] are = tt
  AreIn-weaker old new old_to new_to p q (t ∷ ts) are =
      let one = are.0 in
      let a = one.start_old in
      let b = one.start_new in
      (record { start_old = omega arith; order_old = one.order_old; end_old = one.end_old; start_new = omega arith; order_new = one.order_new; end_new = one.end_new }, are.1)

  -- what is left of a turn
  pub is_trimmed : (start line : Place) → start.old ≤ line.old → line.old ≤ length before → start.new ≤ line.new → line.new ≤ length after
      → (k m : ℕ) → k ≡ same_start (between start.old line.old before) (between start.new line.new after)
      → m ≡ same_end (drop k (between start.old line.old before)) (drop k (between start.new line.new after))
      → IsTrimmed before after start line (record { start = record { old = start.old + k; new = start.new + k }; end = record { old = line.old - m; new = line.new - m } })
  is_trimmed start line old old_fits new new_fits k m k_is m_is =
      let o = between start.old line.old before in
      let n = between start.new line.new after in
      let one = starts_share o n in
      let k_old : k ≤ length o = subst (λ x. x ≤ length o) (sym k_is) (start_fits one) in
      let k_new : k ≤ length n = subst (λ x. x ≤ length n) (sym k_is) (start_fits_new one) in
      let two = ends_share (drop k o) (drop k n) in
      let m_old : m ≤ length (drop k o) = subst (λ x. x ≤ length (drop k o)) (sym m_is) (end_fits two) in
      let m_new : m ≤ length (drop k n) = subst (λ x. x ≤ length (drop k n)) (sym m_is) (end_fits_new two) in
      let same : take k o ≡ take k n = subst (λ x. take x o ≡ take x n) (sym k_is) (start_same one) in
      record {
        start_old = omega arith;
        order_old = cut_order start.old line.old k m before old old_fits k_old m_old;
        end_old = omega arith;
        start_new = omega arith;
        order_new = cut_order start.new line.new k m after new new_fits k_new m_new;
        end_new = omega arith;
        found = trimmed_site start line old old_fits new new_fits k m k_is m_is k_old k_new m_old m_new same;
      }
    where
      trimmed_site : (start line : Place) (old : start.old ≤ line.old) (old_fits : line.old ≤ length before) (new : start.new ≤ line.new) (new_fits : line.new ≤ length after) (k m : ℕ)
          → k ≡ same_start (between start.old line.old before) (between start.new line.new after)
          → m ≡ same_end (drop k (between start.old line.old before)) (drop k (between start.new line.new after))
          → k ≤ length (between start.old line.old before) → k ≤ length (between start.new line.new after)
          → m ≤ length (drop k (between start.old line.old before)) → m ≤ length (drop k (between start.new line.new after))
          → take k (between start.old line.old before) ≡ take k (between start.new line.new after)
          → turn_sites (take start.old before) (take start.new after) (between start.old line.old before) (between start.new line.new after)
          ≡ site_if (take (start.old + k) before) (take (start.new + k) after) (between (start.old + k) (line.old - m) before) (between (start.new + k) (line.new - m) after)
      trimmed_site start line old old_fits new new_fits k m k_is m_is k_old k_new m_old m_new same =
          let o = between start.old line.old before in
          let n = between start.new line.new after in
          let f = take start.old before in
          let g = take start.new after in
          let P : ℕ → ℕ → List Site = λ x y. site_if (f ++ take x o) (g ++ take x o) (take (length (drop x o) - y) (drop x o)) (take (length (drop x n) - y) (drop x n)) in
          turn_sites_is o n f g ∙ ap (λ y. P (same_start o n) y) (sym (m_is ∙ ap (λ x. same_end (drop x o) (drop x n)) k_is)) ∙ ap (λ x. P x m) (sym k_is)
          ∙ ap₂ (λ x y. site_if x y (take (length (drop k o) - m) (drop k o)) (take (length (drop k n) - m) (drop k n)))
          (sym (cut_prefix start.old line.old k m before old old_fits k_old m_old))
          (ap (g ++◌) same ∙ sym (cut_prefix start.new line.new k m after new new_fits k_new m_new))
          ∙ ap₂ (site_if (take (start.old + k) before) (take (start.new + k) after))
          (sym (cut_part start.old line.old k m before old old_fits k_old m_old)) (sym (cut_part start.new line.new k m after new new_fits k_new m_new))

  nothing_between : (i j : ℕ) (t : List ℕ) → i ≡ j → between i j t ≡ []
  nothing_between i j t same = ap (λ x. between i x t) (sym same) ∙ between_none t i

  -- nothing of the turn is left
  pub puts_none : (l : Lining) (t : Turn) → IsLining before after l → IsTrimmed before after l.start l.line t → t.start.old ≡ t.end.old → t.start.new ≡ t.end.new
      → PutsTurn before after l l
  puts_none l t sound is old new =
      record {
        found =
            sym (ap (map (site_of before after) l.turns.items ++◌)
            (is.found ∙ ap₂ (site_if (take t.start.old before) (take t.start.new after)) (nothing_between _ _ before old) (nothing_between _ _ after new))
            ∙ append-nil _);
        order = λ more are. sound.turns more (AreIn-weaker _ _ _ _ sound.start_old sound.start_new more are);
        start = refl;
        line = refl;
        here = refl;
      }

  nil_of_length : (t : List ℕ) → 1 ≤ length t → is_nil t ≡ false
  nil_of_length [] some = absurd (omega arith)
  nil_of_length (b ∷ bs) some = refl

  some_old : (f g o n : List ℕ) → is_nil o ≡ false → site_if f g o n ≡ site f g o n ∷ []
  some_old f g [] n some = absurd (false≢true (sym some))
  some_old f g (b ∷ bs) n some = refl

  some_new : (f g o n : List ℕ) → is_nil n ≡ false → site_if f g o n ≡ site f g o n ∷ []
  some_new f g [] [] some = absurd (false≢true (sym some))
  some_new f g [] (b ∷ bs) some = refl
  some_new f g (b ∷ bs) n some = refl

  not_nothing : (i j : ℕ) (t : List ℕ) → i ≤ j → j ≤ length t → eqb i j ≡ false → is_nil (between i j t) ≡ false
  not_nothing i j t order fits apart =
      let differ : i ≢ j = λ same. false≢true (sym apart ∙ eq-eqb i j same) in
      nil_of_length (between i j t) (omega (arith, length-between t i j fits, differ))

  -- something of the turn is left
  pub some_turn : (l : Lining) (t : Turn) → IsLining before after l → IsTrimmed before after l.start l.line t → (eqb t.start.old t.end.old && eqb t.start.new t.end.new) ≡ false
      → site_if (take t.start.old before) (take t.start.new after) (between t.start.old t.end.old before) (between t.start.new t.end.new after) ≡ site_of before after t ∷ []
  some_turn l t sound is apart =
      let a = is.end_old in
      let b = is.end_new in
      let c = sound.line_old in
      let d = sound.here_old in
      let e = sound.line_new in
      let f = sound.here_new in
      elim (and_cases (eqb t.start.old t.end.old) (eqb t.start.new t.end.new) apart) [
        | inl old ↦
            some_old (take t.start.old before) (take t.start.new after) (between t.start.old t.end.old before) (between t.start.new t.end.new after)
            (not_nothing t.start.old t.end.old before is.order_old (omega arith) old)
        | inr new ↦
            some_new (take t.start.old before) (take t.start.new after) (between t.start.old t.end.old before) (between t.start.new t.end.new after)
            (not_nothing t.start.new t.end.new after is.order_new (omega arith) new)
      ]

  -- the turn is put
  pub puts_one : (l new : Lining) (t : Turn) → IsLining before after l → IsTrimmed before after l.start l.line t
      → site_if (take t.start.old before) (take t.start.new after) (between t.start.old t.end.old before) (between t.start.new t.end.new after) ≡ site_of before after t ∷ []
      → new.turns.items ≡ l.turns.items ++ t ∷ [] → new.start ≡ l.start → new.line ≡ l.line → new.here ≡ l.here → PutsTurn before after l new
  puts_one l new t sound is some items start line here =
      let end_old = is.end_old in
      let end_new = is.end_new in
      let line_old = sound.line_old in
      let here_old = sound.here_old in
      let line_new = sound.line_new in
      let here_new = sound.here_new in
      record {
        found =
            ap (map (site_of before after)) items ∙ map-append (site_of before after) l.turns.items (t ∷ [])
            ∙ ap (map (site_of before after) l.turns.items ++◌) (sym (is.found ∙ some));
        order = λ more are.
            subst (λ ts. AreIn before after 0 0 (ts ++ more)) (sym items)
            (subst (AreIn before after 0 0) (sym (append_assoc l.turns.items (t ∷ []) more))
            (sound.turns (t ∷ more) (
              record { start_old = is.start_old; order_old = is.order_old; end_old = omega arith; start_new = is.start_new; order_new = is.order_new; end_new = omega arith },
              AreIn-weaker _ _ _ _ is.end_old is.end_new more are,
            )));
        start = start;
        line = line;
        here = here;
      }

  abbrev turns_so_far : Lining → List Site
  turns_so_far l = map (site_of before after) l.turns.items

  -- the open line is the same in both texts
  pub closes_alike : (l put new : Lining) → IsLining before after l → PutsTurn before after l put
      → bytes_eq (open_old before after l) (open_new before after l) ≡ true → is_nil (open_old before after l) ≡ false
      → new.turns.items ≡ put.turns.items → new.start ≡ put.here → new.line ≡ put.here → new.here ≡ put.here → Closes before after l new
  closes_alike l put new sound puts same some items start line here =
      let start_is : new.start ≡ l.here = start ∙ puts.here in
      let line_is : new.line ≡ l.here = line ∙ puts.here in
      let here_is : new.here ≡ l.here = here ∙ puts.here in
      let so : new.start.old ≡ l.here.old = ap (λ p. p.old) start_is in
      let sn : new.start.new ≡ l.here.new = ap (λ p. p.new) start_is in
      let lo : new.line.old ≡ l.here.old = ap (λ p. p.old) line_is in
      let ln : new.line.new ≡ l.here.new = ap (λ p. p.new) line_is in
      let ho : new.here.old ≡ l.here.old = ap (λ p. p.old) here_is in
      let hn : new.here.new ≡ l.here.new = ap (λ p. p.new) here_is in
      let here_old = sound.here_old in
      let here_new = sound.here_new in
      record {
        sound = record {
          start_old = omega arith;
          line_old = omega arith;
          here_old = omega arith;
          start_new = omega arith;
          line_new = omega arith;
          here_new = omega arith;
          turns = λ more are.
              subst (λ ts. AreIn before after 0 0 (ts ++ more)) (sym items)
              (puts.order more
              (AreIn-weaker _ _ _ _ (let p = sound.line_old in omega arith) (let p = sound.line_new in omega arith) more are));
        };
        line = line_is;
        here = here_is;
        found = λ parts. new_sites l put new sound puts items start_is line_is (joined parts) ∙ sym (old_sites l sound same some parts);
      }
    where
      new_sites : (l put new : Lining) → IsLining before after l → PutsTurn before after l put → new.turns.items ≡ put.turns.items → new.start ≡ l.here → new.line ≡ l.here → (cs : List Stretch)
          → so_far before after new cs
          ≡ turns_so_far l ++ (turn_sites (take l.start.old before) (take l.start.new after) (between l.start.old l.line.old before) (between l.start.new l.line.new after)
          ++ sites_from (take l.here.old before) (take l.here.new after) cs)
      new_sites l put new sound puts items start line cs =
          let text : List Turn → Place → Place → List Site =
          λ ts s e. map (site_of before after) ts ++ sites_from (take s.old before) (take s.new after) (put_turns (between s.old e.old before) (between s.new e.new after) cs) in
          ap (λ ts. text ts new.start new.line) items ∙ ap₂ (text put.turns.items) start line
          ∙ ap₂ (λ x y. x ++ sites_from (take l.here.old before) (take l.here.new after) y) puts.found (ap₂ (λ x y. put_turns x y cs) (between_none before l.here.old) (between_none after l.here.new))
          ∙ append_assoc (turns_so_far l) _ _

      old_sites : (l : Lining) → IsLining before after l → bytes_eq (open_old before after l) (open_new before after l) ≡ true → is_nil (open_old before after l) ≡ false → (parts : List Stretch)
          → so_far before after l (joined (closed (open_old before after l) (open_new before after l) parts))
          ≡ turns_so_far l ++ (turn_sites (take l.start.old before) (take l.start.new after) (between l.start.old l.line.old before) (between l.start.new l.line.new after)
          ++ sites_from (take l.here.old before) (take l.here.new after) (joined parts))
      old_sites l sound same some parts =
          let o = between l.start.old l.line.old before in
          let n = between l.start.new l.line.new after in
          let f = take l.start.old before in
          let g = take l.start.new after in
          let t = open_old before after l in
          let to_old : (f ++ o) ++ t ≡ take l.here.old before =
          ap (◌++ t) (take_then l.start.old l.line.old before sound.start_old) ∙ take_then l.line.old l.here.old before sound.line_old in
          let to_new : (g ++ n) ++ t ≡ take l.here.new after =
          ap₂ (λ x y. x ++ y) (take_then l.start.new l.line.new after sound.start_new) (same_bytes t (open_new before after l) same)
          ∙ take_then l.line.new l.here.new after sound.line_new in
          ap (turns_so_far l ++◌)
          (ap (λ x. sites_from f g (put_turns o n x)) (joined-closed_same t (open_new before after l) parts same)
          ∙ sites_turn_some f g o n t (joined parts) some ∙ ap (turn_sites f g o n ++◌) (ap₂ (λ x y. sites_from x y (joined parts)) to_old to_new))

  no_part : (o n : List ℕ) → (bytes_eq o n && not (is_nil o)) ≡ false → (cs : List Stretch) → joined (closed o n cs) ≡ put_turns o n (joined cs)
  no_part [] [] other cs = refl
  no_part [] (y ∷ ys) other cs = refl
  no_part (x ∷ xs) n other cs = elim (cases_Bool (bytes_eq (x ∷ xs) n)) [
    | inl e ↦ absurd (false≢true (sym other ∙ ap (λ c. c && true) e))
    | inr e ↦ joined-closed_apart (x ∷ xs) n cs e
  ]

  -- the open line differs, or there is none
  pub closes_apart : (l new : Lining) → IsLining before after l → (bytes_eq (open_old before after l) (open_new before after l) && not (is_nil (open_old before after l))) ≡ false
      → new.turns.items ≡ l.turns.items → new.start ≡ l.start → new.line ≡ l.here → new.here ≡ l.here → Closes before after l new
  closes_apart l new sound other items start line here =
      let so : new.start.old ≡ l.start.old = ap (λ p. p.old) start in
      let sn : new.start.new ≡ l.start.new = ap (λ p. p.new) start in
      let lo : new.line.old ≡ l.here.old = ap (λ p. p.old) line in
      let ln : new.line.new ≡ l.here.new = ap (λ p. p.new) line in
      let ho : new.here.old ≡ l.here.old = ap (λ p. p.old) here in
      let hn : new.here.new ≡ l.here.new = ap (λ p. p.new) here in
      let a = sound.start_old in
      let b = sound.line_old in
      let c = sound.here_old in
      let d = sound.start_new in
      let e = sound.line_new in
      let f = sound.here_new in
      record {
        sound = record {
          start_old = omega arith;
          line_old = omega arith;
          here_old = omega arith;
          start_new = omega arith;
          line_new = omega arith;
          here_new = omega arith;
          turns = λ more are.
              subst (λ ts. AreIn before after 0 0 (ts ++ more)) (sym items)
              (sound.turns more (AreIn-weaker _ _ _ _ (omega arith) (omega arith) more are));
        };
        line = line;
        here = here;
        found = λ parts. apart_sites l new sound other items start line parts;
      }
    where
      apart_sites : (l new : Lining) → IsLining before after l → (bytes_eq (open_old before after l) (open_new before after l) && not (is_nil (open_old before after l))) ≡ false
          → new.turns.items ≡ l.turns.items → new.start ≡ l.start → new.line ≡ l.here → (parts : List Stretch)
          → so_far before after new (joined parts) ≡ so_far before after l (joined (closed (open_old before after l) (open_new before after l) parts))
      apart_sites l new sound other items start line parts =
          let text : List Turn → Place → Place → List Site =
          λ ts s e. map (site_of before after) ts ++ sites_from (take s.old before) (take s.new after) (put_turns (between s.old e.old before) (between s.new e.new after) (joined parts)) in
          let o = between l.start.old l.line.old before in
          let n = between l.start.new l.line.new after in
          let part = no_part (open_old before after l) (open_new before after l) other parts
          in
          ap (λ ts. text ts new.start new.line) items ∙ ap₂ (text l.turns.items) start line
          ∙ sym (ap (λ x. turns_so_far l ++ sites_from (take l.start.old before) (take l.start.new after) x)
          (ap (put_turns o n) part ∙ put_turns-put_turns o n (open_old before after l) (open_new before after l) (joined parts)
          ∙ ap₂ (λ x y. put_turns x y (joined parts)) (between_then l.start.old l.line.old l.here.old before sound.start_old sound.line_old)
          (between_then l.start.new l.line.new l.here.new after sound.start_new sound.line_new)))

  -- ---- bytes that stay

  pub moved_sound : (l : Lining) (m n : ℕ) → IsLining before after l → l.here.old + m ≤ length before → l.here.new + n ≤ length after → IsLining before after (moved m n l)
  moved_sound l m n sound old new =
      let line_old = sound.line_old in
      let line_new = sound.line_new in
      record { start_old = sound.start_old; line_old = omega arith; here_old = old; start_new = sound.start_new; line_new = omega arith; here_new = new; turns = sound.turns }

  open_old-moved : (l : Lining) (t : List ℕ) (n : ℕ) → IsLining before after l → Stands l.here.old t before → open_old before after (moved (length t) n l) ≡ open_old before after l ++ t
  open_old-moved l t n sound stands =
      sym (ap (open_old before after l ++◌) (sym (between_from l.here.old (length t) before ∙ stands))
      ∙ between_then l.line.old l.here.old (l.here.old + length t) before sound.line_old (omega arith))

  open_new-moved : (l : Lining) (t : List ℕ) (m : ℕ) → IsLining before after l → Stands l.here.new t after → open_new before after (moved m (length t) l) ≡ open_new before after l ++ t
  open_new-moved l t m sound stands =
      sym (ap (open_new before after l ++◌) (sym (between_from l.here.new (length t) after ∙ stands))
      ∙ between_then l.line.new l.here.new (l.here.new + length t) after sound.line_new (omega arith))

  -- the bytes stand at this place of both texts
  pub record StandsInBoth (l : Lining) (t : List ℕ) : Type 0 where
    pub old : Stands l.here.old t before
    pub new : Stands l.here.new t after
    pub old_fits : l.here.old + length t ≤ length before
    pub new_fits : l.here.new + length t ≤ length after

  pub reads_plain : (l : Lining) (t : List ℕ) → IsLining before after l → StandsInBoth l t → HasNoNewline t → Reads before after l (moved (length t) (length t) l) t
  reads_plain l t sound stands plain = record {
    sound = moved_sound l (length t) (length t) sound stands.old_fits stands.new_fits;
    old_here = refl;
    new_here = refl;
    found = λ rest.
        ap (λ x. so_far before after l (joined x))
        (ap₂ rest (open_old-moved l t (length t) sound stands.old) (open_new-moved l t (length t) sound stands.new)
        ∙ sym (lined_stay-plain t plain rest (open_old before after l) (open_new before after l)));
  }

  nothing_open : (l new : Lining) → Closes before after l new → (open_old before after new ≡ []) × (open_new before after new ≡ [])
  nothing_open l new closes =
      let same : new.line ≡ new.here = closes.line ∙ sym closes.here in
      (nothing_between _ _ before (ap (λ p. p.old) same), nothing_between _ _ after (ap (λ p. p.new) same))

  closed_here : (l new : Lining) (t : List ℕ) → Closes before after (moved (length t) (length t) l) new → (new.here.old ≡ l.here.old + length t) × (new.here.new ≡ l.here.new + length t)
  closed_here l new t closes = (ap (λ p. p.old) closes.here, ap (λ p. p.new) closes.here)

  -- lines are read, and the last of them is closed
  closed_sites : (l new : Lining) (t : List ℕ) → IsLining before after l → StandsInBoth l t → Closes before after (moved (length t) (length t) l) new
      → (rest : List ℕ → List ℕ → List Stretch) → so_far before after new (joined (rest (open_old before after new) (open_new before after new)))
      ≡ so_far before after l (joined (closed (open_old before after l ++ t) (open_new before after l ++ t) (rest [] [])))
  closed_sites l new t sound stands closes rest =
      let none = nothing_open (moved (length t) (length t) l) new closes in
      ap (λ x. so_far before after new (joined x)) (ap₂ rest none.0 none.1) ∙ closes.found (rest [] [])
      ∙ ap (λ x. so_far before after l (joined x)) (ap₂ (λ x y. closed x y (rest [] [])) (open_old-moved l t (length t) sound stands.old) (open_new-moved l t (length t) sound stands.new))

  pub reads_line : (l new : Lining) (line : List ℕ) → IsLining before after l → StandsInBoth l (line ++ 10 ∷ []) → HasNoNewline line
      → Closes before after (moved (length (line ++ 10 ∷ [])) (length (line ++ 10 ∷ [])) l) new → Reads before after l new (line ++ 10 ∷ [])
  reads_line l new line sound stands plain closes =
      let at = closed_here l new (line ++ 10 ∷ []) closes in
      record {
        sound = closes.sound;
        old_here = at.0;
        new_here = at.1;
        found = λ rest.
            closed_sites l new (line ++ 10 ∷ []) sound stands closes rest
            ∙ ap (λ x. so_far before after l (joined x)) (sym (lined_stay-line line plain rest (open_old before after l) (open_new before after l)));
      }

  pub reads_lines : (l new : Lining) (t : List ℕ) → IsLining before after l → StandsInBoth l t → at_line t ≡ true → l.line ≡ l.here
      → Closes before after (moved (length t) (length t) l) new → Reads before after l new t
  reads_lines l new t sound stands ends at_here closes =
      let at = closed_here l new t closes in
      let none_old : open_old before after l ≡ [] = nothing_between _ _ before (ap (λ p. p.old) at_here) in
      let none_new : open_new before after l ≡ [] = nothing_between _ _ after (ap (λ p. p.new) at_here) in
      record {
        sound = closes.sound;
        old_here = at.0;
        new_here = at.1;
        found = λ rest.
            closed_sites l new t sound stands closes rest
            ∙ ap (so_far before after l)
            (ap₂ (λ x y. joined (closed (x ++ t) (y ++ t) (rest [] []))) none_old none_new ∙ joined-closed_same t t (rest [] []) (bytes_eq-self t)
            ∙ sym (lines_stay t rest ends) ∙ ap₂ (λ x y. joined (lined_stay t rest x y)) (sym none_old) (sym none_new));
      }

  pub reads_on : (l mid new : Lining) (t u : List ℕ) → Reads before after l mid t → Reads before after mid new u → Reads before after l new (t ++ u)
  reads_on l mid new t u one two = record {
    sound = two.sound;
    old_here = two.old_here ∙ ap (λ n. n + length u) one.old_here ∙ more l.here.old t u;
    new_here = two.new_here ∙ ap (λ n. n + length u) one.new_here ∙ more l.here.new t u;
    found = λ rest.
        two.found rest ∙ one.found (lined_stay u rest)
        ∙ ap (λ x. so_far before after l (joined x)) (sym (lined_stay-append t u rest (open_old before after l) (open_new before after l)));
  }
    where
      more : (n : ℕ) (t u : List ℕ) → n + length t + length u ≡ n + length (t ++ u)
      more n t u = omega (arith, length-append t u)

  pub stands_both_first : (l : Lining) (t u : List ℕ) → StandsInBoth l (t ++ u) → StandsInBoth l t
  stands_both_first l t u stands =
      let old_fits = stands.old_fits in
      let new_fits = stands.new_fits in
      record {
        old = stands_first l.here.old t u before stands.old;
        new = stands_first l.here.new t u after stands.new;
        old_fits = omega (arith, length-append t u);
        new_fits = omega (arith, length-append t u);
      }

  pub stands_both_next : (l next : Lining) (t u : List ℕ) → next.here.old ≡ l.here.old + length t → next.here.new ≡ l.here.new + length t → StandsInBoth l (t ++ u) → StandsInBoth next u
  stands_both_next l next t u old new stands =
      let old_fits = stands.old_fits in
      let new_fits = stands.new_fits in
      record {
        old = subst (λ n. Stands n u before) (sym old) (stands_next l.here.old t u before stands.old);
        new = subst (λ n. Stands n u after) (sym new) (stands_next l.here.new t u after stands.new);
        old_fits = omega (arith, length-append t u);
        new_fits = omega (arith, length-append t u);
      }

  -- ---- bytes that turn

  pub turns_closed : (l new : Lining) (o n : List ℕ) → IsLining before after l → Stands l.here.old o before → Stands l.here.new n after
      → (at_line (open_old before after (moved (length o) (length n) l)) && at_line (open_new before after (moved (length o) (length n) l))) ≡ true
      → Closes before after (moved (length o) (length n) l) new → Turns before after l new o n
  turns_closed l new o n sound old_stands new_stands ends closes =
      let none = nothing_open (moved (length o) (length n) l) new closes in
      let old_is = open_old-moved l o (length n) sound old_stands in
      let new_is = open_new-moved l n (length o) sound new_stands in
      record {
        sound = closes.sound;
        old_here = ap (λ p. p.old) closes.here;
        new_here = ap (λ p. p.new) closes.here;
        found = λ rest.
            ap (λ x. so_far before after new (joined x)) (ap₂ rest none.0 none.1) ∙ closes.found (rest [] [])
            ∙ ap (λ x. so_far before after l (joined x)) (sym (cond-true _ _ _ ends) ∙ ap₂ (lined_turn rest) old_is new_is);
      }

  pub turns_open : (l : Lining) (o n : List ℕ) → IsLining before after l → Stands l.here.old o before → Stands l.here.new n after
      → l.here.old + length o ≤ length before → l.here.new + length n ≤ length after
      → (at_line (open_old before after (moved (length o) (length n) l)) && at_line (open_new before after (moved (length o) (length n) l))) ≡ false
      → Turns before after l (moved (length o) (length n) l) o n
  turns_open l o n sound old_stands new_stands old_fits new_fits ends =
      let old_is = open_old-moved l o (length n) sound old_stands in
      let new_is = open_new-moved l n (length o) sound new_stands in
      record {
        sound = moved_sound l (length o) (length n) sound old_fits new_fits;
        old_here = refl;
        new_here = refl;
        found = λ rest. ap (λ x. so_far before after l (joined x)) (sym (cond-false _ _ _ ends) ∙ ap₂ (lined_turn rest) old_is new_is);
      }

  -- ---- all turns

  pub are_all : (l closed_one put : Lining) → Closes before after l closed_one → PutsTurn before after closed_one put → AreAll before after l put.turns.items
  are_all l one put closes puts = record {
    found =
        puts.found
        ∙ ap (map (site_of before after) one.turns.items ++◌)
        (sym (sites_turn_end (take one.start.old before) (take one.start.new after) (between one.start.old one.line.old before) (between one.start.new one.line.new after)))
        ∙ closes.found [];
    order = subst (AreIn before after 0 0) (append-nil put.turns.items) (puts.order [] tt);
  }

  -- ---- what the code reads

  slice_is : (h n : ℕ) (t text : List ℕ) → text ≡ between h (h + n) t → text ≡ take n (drop h t)
  slice_is h n t text is = is ∙ between_from h n t

  taken_length : (h n : ℕ) (t : List ℕ) → h + n ≤ length t → length (take n (drop h t)) ≡ n
  taken_length h n t fits = length-take-le n (drop h t) (omega (arith, length-drop h t))

  -- bytes that both texts have at these places
  pub stands_both : (l : Lining) (n : ℕ) → l.here.old + n ≤ length before → l.here.new + n ≤ length after
      → take n (drop l.here.old before) ≡ take n (drop l.here.new after) → StandsInBoth l (take n (drop l.here.old before))
  stands_both l n old new same =
      let count = taken_length l.here.old n before old in
      record {
        old = ap (λ k. take k (drop l.here.old before)) count;
        new = ap (λ k. take k (drop l.here.new after)) count ∙ sym same;
        old_fits = omega (arith, count);
        new_fits = omega (arith, count);
      }

  pub stay_plain : (l new : Lining) (n : ℕ) (text : List ℕ) → IsLining before after l → l.here.old + n ≤ length before → l.here.new + n ≤ length after
      → take n (drop l.here.old before) ≡ take n (drop l.here.new after) → text ≡ between l.here.old (l.here.old + n) before → HasNoNewline text
      → new ≡ moved n n l → Reads before after l new (take n (drop l.here.old before))
  stay_plain l new n text sound old fits same is plain moved_is =
      let count = taken_length l.here.old n before old in
      subst (λ x. Reads before after l x (take n (drop l.here.old before))) (ap₂ (λ i j. moved i j l) count count ∙ sym moved_is)
      (reads_plain l (take n (drop l.here.old before)) sound (stands_both l n old fits same) (subst HasNoNewline (slice_is l.here.old n before text is) plain))

  -- a line that ends, lines, and what is open after them
  pub record IsInLines (text line lines opened : List ℕ) : Type 0 where
    pub parts : text ≡ (line ++ 10 ∷ []) ++ (lines ++ opened)
    pub first : HasNoNewline line
    pub ends : at_line lines ≡ true
    pub last : HasNoNewline opened

  pub in_lines : (text line rest : List ℕ) (place : ℕ) → BeginsWithLine text line rest → IsOpenFrom rest place → IsInLines text line (take place rest) (drop place rest)
  in_lines text line rest place begins opened = record {
    parts = begins.whole ∙ sym (append_assoc line (10 ∷ []) rest) ∙ ap ((line ++ 10 ∷ []) ++◌) (sym (take-append-drop place rest));
    first = begins.first;
    ends = opened.lines;
    last = opened.open_line;
  }

  pub stay_lines : (l one two new : Lining) (text line lines opened : List ℕ) → IsLining before after l → StandsInBoth l text → IsInLines text line lines opened
      → Closes before after (moved (length line + 1) (length line + 1) l) one → Closes before after (moved (length lines) (length lines) one) two
      → new ≡ moved (length opened) (length opened) two → Reads before after l new text
  stay_lines l one two new text line lines opened sound stands cut closes_one closes_two moved_is =
      let whole : StandsInBoth l ((line ++ 10 ∷ []) ++ (lines ++ opened)) = subst (StandsInBoth l) cut.parts stands in
      let count : length line + 1 ≡ length (line ++ 10 ∷ []) = sym (length-append line (10 ∷ [])) in
      let first_closes : Closes before after (moved (length (line ++ 10 ∷ [])) (length (line ++ 10 ∷ [])) l) one =
      subst (λ n. Closes before after (moved n n l) one) count closes_one in
      let reads_one = reads_line l one line sound (stands_both_first l (line ++ 10 ∷ []) (lines ++ opened) whole) cut.first first_closes in
      let rest = stands_both_next l one (line ++ 10 ∷ []) (lines ++ opened) reads_one.old_here reads_one.new_here whole in
      let reads_two = reads_lines one two lines reads_one.sound (stands_both_first one lines opened rest) cut.ends (closes_one.line ∙ sym closes_one.here) closes_two in
      let last = stands_both_next one two lines opened reads_two.old_here reads_two.new_here rest in
      let reads_three = reads_plain two opened reads_two.sound last cut.last in
      subst (Reads before after l new) (sym cut.parts)
      (subst (λ x. Reads before after l x ((line ++ 10 ∷ []) ++ (lines ++ opened))) (sym moved_is)
      (reads_on l one (moved (length opened) (length opened) two) (line ++ 10 ∷ []) (lines ++ opened) reads_one
      (reads_on one two (moved (length opened) (length opened) two) lines opened reads_two reads_three)))

  -- what the code reads that turns
  pub turn_closed : (l mid new : Lining) (m n : ℕ) → IsLining before after l → l.here.old + m ≤ length before → l.here.new + n ≤ length after
      → mid ≡ moved m n l → (at_line (open_old before after mid) && at_line (open_new before after mid)) ≡ true → Closes before after mid new
      → Turns before after l new (take m (drop l.here.old before)) (take n (drop l.here.new after))
  turn_closed l mid new m n sound old fits mid_is ends closes =
      let o = take m (drop l.here.old before) in
      let p = take n (drop l.here.new after) in
      let count_old = taken_length l.here.old m before old in
      let count_new = taken_length l.here.new n after fits in
      let is : mid ≡ moved (length o) (length p) l = mid_is ∙ ap₂ (λ i j. moved i j l) (sym count_old) (sym count_new) in
      turns_closed l new o p sound (ap (λ k. take k (drop l.here.old before)) count_old) (ap (λ k. take k (drop l.here.new after)) count_new)
      (subst (λ x. (at_line (open_old before after x) && at_line (open_new before after x)) ≡ true) is ends) (subst (λ x. Closes before after x new) is closes)

  pub turn_open : (l new : Lining) (m n : ℕ) → IsLining before after l → l.here.old + m ≤ length before → l.here.new + n ≤ length after
      → new ≡ moved m n l → (at_line (open_old before after new) && at_line (open_new before after new)) ≡ false
      → Turns before after l new (take m (drop l.here.old before)) (take n (drop l.here.new after))
  turn_open l new m n sound old fits new_is ends =
      let o = take m (drop l.here.old before) in
      let p = take n (drop l.here.new after) in
      let count_old = taken_length l.here.old m before old in
      let count_new = taken_length l.here.new n after fits in
      let is : new ≡ moved (length o) (length p) l = new_is ∙ ap₂ (λ i j. moved i j l) (sym count_old) (sym count_new) in
      subst (λ x. Turns before after l x o p) (sym is)
      (turns_open l o p sound (ap (λ k. take k (drop l.here.old before)) count_old) (ap (λ k. take k (drop l.here.new after)) count_new)
      (omega (arith, count_old)) (omega (arith, count_new)) (subst (λ x. (at_line (open_old before after x) && at_line (open_new before after x)) ≡ false) is ends))
