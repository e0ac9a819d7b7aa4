-- What is done, hunk by hunk.
use Rattle.std.proofs.Common.{◌≡◌, ◌∙◌, ℕ, ◌+◌, ◌-◌, ◌≤◌, ◌<◌, List, [], ◌∷◌, ◌++◌, length, map, drop, replicate, get_or}
use Rattle.std.proofs.Common.{refl, sym, ap, subst, append_assoc, length-append, length-drop, drop-drop, arith}
use Rattle.std.proofs.lemmas.List.{drop_at}
use Rattle.rec_journal.specs.declared.patch.Hunk.{Hunk}
use Rattle.rec_journal.specs.Patch.{Splices, SplicesFrom}
use Rattle.rec_diff.specs.declared.reverting.standing.Back.{Back}
use Rattle.rec_diff.specs.Composing.{keeps, removes, adds, deeds_from}
use Rattle.rec_diff.specs.proving.Weaving.{back_hunk}
use Rattle.rec_diff.proofs.lemmas.PlaceLemmas.{next_item}

-- ---- hunk by hunk

-- these hunks lead on from a place of the text
pub record LeadOn (text : List ℕ) (place : ℕ) (hunks : List Hunk) : Type 0 where
  pub after : List ℕ
  pub leads : SplicesFrom place hunks (drop place text) after
  pub fits : place ≤ length text

module _ (text : List ℕ) (place : ℕ) (h : Hunk) (hunks : List Hunk) (lead : LeadOn text place (h ∷ hunks)) where
  whole_length : length text ≡ place + (length lead.leads.0 + (length h.old + length lead.leads.1))
  whole_length =
      let fits = lead.fits in
      let parts : length (drop place text) ≡ length lead.leads.0 + (length h.old + length lead.leads.1) =
      ap length lead.leads.4 ∙ length-append lead.leads.0 (h.old ++ lead.leads.1) ∙ ap (λ n. length lead.leads.0 + n) (length-append h.old lead.leads.1) in
      omega (arith, fits, parts, length-drop place text)

  pub hunk_after : place ≤ h.at
  hunk_after = let at = lead.leads.3 in omega (arith, at)

  pub hunk_ends : h.at + length h.old ≤ length text
  hunk_ends = let at = lead.leads.3 in omega (arith, at, whole_length)

  pub next_leads : LeadOn text (h.at + length h.old) hunks
  next_leads =
      let at = lead.leads.3 in
      let kept = lead.leads.0 in
      let rest = lead.leads.1 in
      let count : place + length (kept ++ h.old) ≡ h.at + length h.old = omega (arith, at, length-append kept h.old) in
      let rest_is : drop (h.at + length h.old) text ≡ rest =
      ap (λ n. drop n text) (sym count) ∙ sym (drop-drop (length (kept ++ h.old)) place text)
      ∙ ap (drop (length (kept ++ h.old))) (lead.leads.4 ∙ sym (append_assoc kept h.old rest)) ∙ drop_at (kept ++ h.old) rest (length (kept ++ h.old)) refl in
      record {
        after = lead.leads.2;
        leads = subst (λ t. SplicesFrom (h.at + length h.old) hunks t lead.leads.2) (sym rest_is) lead.leads.6;
        fits = hunk_ends;
      }

  pub deeds_next : deeds_from place (h ∷ hunks) ≡ (replicate (h.at - place) keeps ++ (map removes h.old ++ map adds h.new)) ++ deeds_from (h.at + length h.old) hunks
  deeds_next =
      sym (append_assoc (replicate (h.at - place) keeps) (map removes h.old ++ map adds h.new) (deeds_from (h.at + length h.old) hunks)
      ∙ ap (replicate (h.at - place) keeps ++◌) (append_assoc (map removes h.old) (map adds h.new) (deeds_from (h.at + length h.old) hunks)))

pub lead_from : (hunks : List Hunk) (text after : List ℕ) → Splices hunks text after → LeadOn text 0 hunks
lead_from hunks text after leads = record { after = after; leads = leads; fits = omega arith }

-- ---- one after another

pub next_back : (backs : List Back) (i : ℕ) (b d : Back) → i < length backs → b ≡ get_or backs i d → map back_hunk (drop i backs) ≡ back_hunk b ∷ map back_hunk (drop (i + 1) backs)
next_back backs i b d there is = ap (map back_hunk) (next_item backs i b d there is)

-- ---- what takes a turn back, after those that were looked at

abbrev pub no_back : Back
no_back = record { at = 0; old = record { ref_ptr = (0, 0); now = [] }; new = record { ref_ptr = (0, 0); now = [] } }

module _ (here : List ℕ) (place : ℕ) (backs : List Back) (i : ℕ) (there : i < length backs) (lead : LeadOn here place (map back_hunk (drop i backs))) where
  abbrev back : Back
  back = get_or backs i no_back

  back_leads : LeadOn here place (back_hunk back ∷ map back_hunk (drop (i + 1) backs))
  back_leads = subst (LeadOn here place) (next_back backs i back no_back there refl) lead

  pub back_fits : place ≤ back.at
  back_fits = hunk_after here place (back_hunk back) (map back_hunk (drop (i + 1) backs)) back_leads

  pub back_ends : back.at + length back.old.now ≤ length here
  back_ends = hunk_ends here place (back_hunk back) (map back_hunk (drop (i + 1) backs)) back_leads

  pub backs_lead : LeadOn here (back.at + length back.old.now) (map back_hunk (drop (i + 1) backs))
  backs_lead = next_leads here place (back_hunk back) (map back_hunk (drop (i + 1) backs)) back_leads

  pub back_deeds : deeds_from place (map back_hunk (drop i backs))
      ≡ (replicate (back.at - place) keeps ++ (map removes back.old.now ++ map adds back.new.now)) ++ deeds_from (back.at + length back.old.now) (map back_hunk (drop (i + 1) backs))
  back_deeds =
      ap (deeds_from place) (next_back backs i back no_back there refl) ∙ deeds_next here place (back_hunk back) (map back_hunk (drop (i + 1) backs)) back_leads
