use Rattle.std.proofs.Common.{◌≡◌, ◌∙◌, ◌++◌, ◌==◌, List, ap, arith, get_or, length, not, sym, subst, false}
use Rattle.std.proofs.lemmas.List.{length-map}
use Rattle.std.specs.List.{list_any}
use Rattle.rec_text.specs.Elements.{Piece, text_of}
use Rattle.rec_text.specs.Places.{piece_of, pieces_of}
use Rattle.rec_text.specs.Records.{elements_in}
use Rattle.rec_sex.specs.declared.lists.field_list.Item.{Item}
use Rattle.rec_edit.specs.Script.{settled}
use Rattle.rec_edit.specs.Blocks.{kept}
use Rattle.rec_edit.specs.Rules.{added, edited}
use Rattle.rec_edit.specs.proving.Drafts.{LeadsOn}
use Rattle.rec_edit.specs.proving.Laying.{block_at}
use Rattle.rec_edit.proofs.lemmas.scripts.WellFormedLemmas.{AreWhole}
use Rattle.rec_edit.proofs.lemmas.blocks.BlockLemmas.{AreWhole-following, AreKept-kept, old_pieces-kept}
use Rattle.rec_edit.proofs.lemmas.scripts.ScriptLemmas.{old_pieces-settled}
use Rattle.rec_edit.proofs.lemmas.blocks.LayingLemmas.{AreWhole-between, length-between, span-parts}
use Rattle.rec_edit.proofs.lemmas.blocks.SettingLemmas.{AreLines-added, is_more-text, fields_laid}
use Rattle.rec_edit.proofs.changes.setting.SettingChange.lay.Goals.{After-elements_in-fields}
use Rattle.rec_edit.proofs.changes.setting.SettingChange.lay.Goals as goal

fields_are : (c : After-elements_in-fields) → pieces_of c.elements_in-fields.result.now ≡ elements_in c.args.database.now c.args.own.now
fields_are c = c.elements_in-fields.ensures.pieces ∙ ap (λ (p : List Piece). elements_in p c.args.own.now) c.elements.ensures.pieces

pub lay_fields-requires-clause-fits : goal.lay_fields-requires-clause-fits
lay_fields-requires-clause-fits c =
    let place = c.requires.place in
    let fields = fields_are (goal.at.lay_fields-requires-clause-fits c).After-elements_in-fields in
    let sizes = length-between c.args.database.now c.args.own.now.start c.args.own.now.end c.args.end (omega (arith, place.some)) place.ordered place.within in
    omega (arith, c.requires.fits, sizes, ap (λ l. length (text_of l)) fields)

pub put-requires : goal.put-requires
put-requires c =
    let place = c.requires.place in
    let fields = fields_are (goal.at.put-requires c).After-elements_in-fields in
    let sizes = length-between c.args.database.now c.args.own.now.start c.args.own.now.end c.args.end (omega (arith, place.some)) place.ordered place.within in
    record { fits = omega (arith, c.requires.fits, sizes, ap (λ l. length (text_of l)) fields, c.in_ok-lay_fields.ensures.reached) }

pub keep-requires : goal.keep-requires
keep-requires c =
    let place = c.requires.place in
    let fields = fields_are (goal.at.keep-requires c).After-elements_in-fields in
    let sizes = length-between c.args.database.now c.args.own.now.start c.args.own.now.end c.args.end (omega (arith, place.some)) place.ordered place.within in
    record { fits = omega (arith, c.requires.fits, sizes, ap (λ l. length (text_of l)) fields, c.in_ok-lay_fields.ensures.reached, c.in_ok-put.ensures.reached, ap length c.text_in.ensures) }

pub returns : goal.returns
returns c =
    let pieces = c.args.database.now in
    let block = block_at pieces c.args.own.now c.args.end in
    let own = pieces_of c.elements_in-fields.result.now in
    let items = c.args.self.now.list.now in
    let action = c.args.self.now.action.now in
    let fields = fields_are (goal.at.returns c).After-elements_in-fields in
    let whole = subst AreWhole (span-parts pieces c.args.own.now c.args.end c.requires.place) (AreWhole-between pieces c.args.own.now.start c.args.end c.elements.ensures.whole) in
    let after : AreWhole block.gap = AreWhole-following block.own block.gap whole in
    let lines = AreLines-added action items own in
    let written =
    c.in_ok-append_added.ensures ∙ ap (λ t. t ++ text_of (added action c.items.result.now own)) c.new-added.ensures.items
    ∙ ap (λ (given : List Item). text_of (added action given own)) c.items.ensures in
    subst (λ (o : List Piece). LeadsOn c.args.draft.now (settled (edited action items (record { own = o; gap = block.gap }))) c.keep.new.self) fields
    (fields_laid action items own block.gap c.deref-2.result.now (not c.is_empty.result) c.args.draft.now c.lay_fields.new.draft c.put.new.self c.keep.new.self
    (subst (λ (o : List Piece). AreWhole (o ++ block.gap)) (sym fields) whole)
    (ap length c.deref-2.ensures.value ∙ c.in_ok-marks.ensures.size ∙ sym (length-map c.elements_in-fields.result.now piece_of))
    (λ k within. ap (λ m. get_or m k false) c.deref-2.ensures.value ∙ c.in_ok-marks.ensures.each k (omega (arith, within, length-map c.elements_in-fields.result.now piece_of))
    ∙ ap (list_any (λ place. place == k)) (c.deref.ensures.value ∙ c.in-Ok.ensures.places))
    (ap not c.is_empty.ensures ∙ is_more-text (added action items own) c.append_added.new.out.len lines (c.append_added.new.out.ok.0 ∙ ap length written))
    c.in_ok-lay_fields.ensures.laid
    (c.in_ok-put.ensures.carried_out (added action items own) lines (c.deref-3.ensures.value ∙ written))
    (c.in_ok-keep.ensures.carried_out (settled (kept block.gap)) (AreKept-kept block.gap after)
    (c.text_in.ensures ∙ ap text_of (sym (old_pieces-kept block.gap) ∙ sym (old_pieces-settled (kept block.gap))))))
