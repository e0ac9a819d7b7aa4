-- Well-formed elements: with a newline added or without it, commented, written anew and renamed; and the new elements of a script.
use Rattle.std.proofs.Common.{◌≡◌, ◌∙◌, ℕ, suc, ◌+◌, ◌<◌, ◌≤◌, Bool, true, false, cond, not, ◌&&◌, ◌||◌, ◌==◌, List, [], ◌∷◌, ◌++◌, length, map, take, drop, Some, refl, sym, ap}
use Rattle.std.proofs.Common.{append_assoc, arith, subst, append-nil}
use Rattle.std.specs.Option.{option_map, option_map_or}
use Rattle.std.specs.List.{AllByRecursion, list_all}
use Rattle.std.proofs.lemmas.Bool.{cond_both, cond-false, and_parts, and_from, and_left, and_right, or_left, or_right, or_from, or_parts, not-true, not_from_false, eqb-true, false≢true}
use Rattle.std.proofs.lemmas.Bool.{false_from_ne_true}
use Rattle.std.proofs.lemmas.List.{take-append-drop, take-append-le, drop-append-le, drop_more, drop_at, length-map, length-drop}
use Rattle.rec_text.specs.declared.element.Kind.{Kind}
use Rattle.rec_text.specs.declared.element.Kind.TheVariants.{Blank, Comment, Field}
use Rattle.rec_text.specs.Bytes.{is_blank, is_letter, is_nil, continues_name, ends_newline}
use Rattle.rec_text.specs.Canonical.{is_plain_name, is_foldable, folded, field_of}
use Rattle.rec_text.specs.Elements.{Piece, IsElement, is_element, is_line, is_blank_line, is_comment, is_field, is_body, is_joined, is_dangling, colon_of, name_of, EndInNewlines}
use Rattle.rec_text.specs.Values.{on_first}
use Rattle.rec_edit.specs.Script.{closed, without_newline, opened}
use Rattle.rec_edit.specs.Rules.{canonical, physical_lines, comments_of, renamed}
use Rattle.rec_text.proofs.lemmas.ListLemmas.{is_nil-push}
use Rattle.rec_text.proofs.lemmas.values.FoldLemmas.{is_foldable-same}
use Rattle.rec_text.proofs.lemmas.elements.FieldLemmas.{is_named-at, colon_of-append, colon_of-byte, ends_newline-cons, ends_newline-append}
use Rattle.rec_text.proofs.lemmas.reading.CutLemmas.{IsNamed, IsNamed-true}
use Rattle.rec_text.proofs.lemmas.values.CanonicalLemmas.{name_end-all, after_colon, is_field-field_of}

-- ---- well-formed elements: with a newline added, without their newline, commented, written anew and renamed

-- a well-formed element with a newline at its end
pub record IsClosed (piece : Piece) : Type 0 where
  pub element : IsElement piece
  pub ends : ends_newline piece.bytes ≡ true

-- without the newline at its end
abbrev pub bare : Piece → Piece
bare piece = record { kind = piece.kind; bytes = without_newline piece.bytes }

-- a well-formed element, where the newline at its end is taken off
abbrev pub IsBare : Piece → Type 0
IsBare piece = IsElement (bare piece)

-- ---- the newline at the end of a text

pub without_newline-push : (bs : List ℕ) → without_newline (bs ++ 10 ∷ []) ≡ bs
without_newline-push [] = refl
without_newline-push (b ∷ []) = refl
without_newline-push (b ∷ c ∷ bs) = ap (λ rest. b ∷ rest) (without_newline-push (c ∷ bs))

pub ends_newline-at : (prefix : List ℕ) (b : ℕ) (bs : List ℕ) → ends_newline (prefix ++ b ∷ bs) ≡ ends_newline (b ∷ bs)
ends_newline-at [] b bs = refl
ends_newline-at (x ∷ []) b bs = refl
ends_newline-at (x ∷ y ∷ prefix) b bs = ends_newline-at (y ∷ prefix) b bs

pub ends_newline-rest : (b : ℕ) (bs : List ℕ) → ends_newline (b ∷ bs) ≡ false → ends_newline bs ≡ false
ends_newline-rest b [] lacks = refl
ends_newline-rest b (c ∷ bs) lacks = lacks

pub ends_newline-drop : (n : ℕ) (bs : List ℕ) → ends_newline bs ≡ false → ends_newline (drop n bs) ≡ false
ends_newline-drop n bs lacks =
    false_from_ne_true (ends_newline (drop n bs))
    (λ ends. false≢true (sym lacks ∙ ap ends_newline (sym (take-append-drop n bs)) ∙ ends_newline-append (take n bs) (drop n bs) ends))

-- ---- a newline is added

plain_step : (newline rest : Bool) → cond newline false rest ≡ true → (newline ≡ false) × (rest ≡ true)
plain_step true rest e = absurd (false≢true e)
plain_step false rest e = (refl, e)

is_line-closed : (test : ℕ → Bool) (bs : List ℕ) → is_line test bs ≡ true → ends_newline bs ≡ false → is_line test (bs ++ 10 ∷ []) ≡ true
is_line-closed test [] line lacks = refl
is_line-closed test (b ∷ []) line lacks = rw lacks (rw lacks at line)
is_line-closed test (b ∷ c ∷ cs) line lacks =
    let edit = plain_step (b == 10) (test b && is_line test (c ∷ cs)) line in
    let parts = and_parts (test b) (is_line test (c ∷ cs)) edit.1 in
    rw edit.0 (and_from (test b) _ parts.0 (is_line-closed test (c ∷ cs) parts.1 lacks))

is_blank_line-closed : (bs : List ℕ) → is_blank_line bs ≡ true → ends_newline bs ≡ false → is_blank_line (bs ++ 10 ∷ []) ≡ true
is_blank_line-closed [] whole lacks = absurd (false≢true whole)
is_blank_line-closed (b ∷ bs) whole lacks = is_line-closed is_blank (b ∷ bs) whole lacks

is_comment-closed : (bs : List ℕ) → is_comment bs ≡ true → ends_newline bs ≡ false → is_comment (bs ++ 10 ∷ []) ≡ true
is_comment-closed [] whole lacks = absurd (false≢true whole)
is_comment-closed (b ∷ bs) whole lacks =
    let parts = and_parts (b == 35) (is_line (λ _. true) bs) whole in
    and_from (b == 35) _ parts.0 (is_line-closed (λ _. true) bs parts.1 (ends_newline-rest b bs lacks))

last_joined : (x : Bool) → (((x || true) || false) && true) ≡ true
last_joined true = refl
last_joined false = refl

is_joined-closed : (before : ℕ) (bs : List ℕ) → is_joined before bs ≡ true → ends_newline bs ≡ false → is_joined before (bs ++ 10 ∷ []) ≡ true
is_joined-closed before [] joined lacks = last_joined (before == 92)
is_joined-closed before (b ∷ []) joined lacks = rw lacks (last_joined (b == 92))
is_joined-closed before (b ∷ c ∷ cs) joined lacks =
    let parts = and_parts (((not (b == 10) || before == 92) || false) || c == 43) (is_joined b (c ∷ cs)) joined in
    and_from (((not (b == 10) || before == 92) || false) || c == 43) _ parts.0 (is_joined-closed b (c ∷ cs) parts.1 lacks)

is_dangling-closed : (before : ℕ) (bs : List ℕ) → is_dangling before bs ≡ false → is_dangling before (bs ++ 10 ∷ []) ≡ false
is_dangling-closed before [] ends = rw ends refl
is_dangling-closed before (b ∷ bs) ends =
    let parts = or_parts ((before == 92 && b == 10) && is_nil bs) (is_dangling b bs) ends in
    or_from ((before == 92 && b == 10) && is_nil (bs ++ 10 ∷ [])) _ (and_right _ _ (is_nil-push bs 10)) (is_dangling-closed b bs parts.1)

is_body-closed : (bs : List ℕ) → is_body bs ≡ true → ends_newline bs ≡ false → is_body (bs ++ 10 ∷ []) ≡ true
is_body-closed bs body lacks =
    let parts = and_parts (is_joined 58 bs) (not (is_dangling 58 bs)) body in
    and_from (is_joined 58 (bs ++ 10 ∷ [])) _ (is_joined-closed 58 bs parts.0 lacks) (not_from_false _ (is_dangling-closed 58 bs (not-true _ parts.1)))

is_field-closed : (bs : List ℕ) → is_field bs ≡ true → ends_newline bs ≡ false → is_field (bs ++ 10 ∷ []) ≡ true
is_field-closed bs whole lacks =
    let named = IsNamed-true is_body bs whole in
    let c = named.colon in
    let within : c + 1 ≤ length bs = omega (arith, named.within) in
    is_named-at is_body (bs ++ 10 ∷ []) c (colon_of-append bs (10 ∷ []) c named.found)
    ∙ ap is_body (drop-append-le (c + 1) bs (10 ∷ []) within)
    ∙ is_body-closed (drop (c + 1) bs) named.passes (ends_newline-drop (c + 1) bs lacks)

is_element-closed : (kind : Kind) (bs : List ℕ) → is_element kind bs ≡ true → ends_newline bs ≡ false → is_element kind (bs ++ 10 ∷ []) ≡ true
is_element-closed Blank bs whole lacks = is_blank_line-closed bs whole lacks
is_element-closed Comment bs whole lacks = is_comment-closed bs whole lacks
is_element-closed Field bs whole lacks = is_field-closed bs whole lacks

-- an element with other bytes
abbrev with_bytes : Piece → List ℕ → Piece
with_bytes piece bytes = record { kind = piece.kind; bytes = bytes }

-- with a newline at its end
abbrev with_newline : Piece → Piece
with_newline piece = with_bytes piece (piece.bytes ++ 10 ∷ [])

pub IsClosed-closed : (piece : Piece) → IsElement piece → IsClosed (closed piece)
IsClosed-closed piece whole =
    cond_both (ends_newline piece.bytes) piece.bytes (piece.bytes ++ 10 ∷ []) (λ bytes. IsClosed (with_bytes piece bytes))
    (λ ends. record { element = whole; ends = ends })
    (λ lacks. record { element = is_element-closed piece.kind piece.bytes whole lacks; ends = ends_newline-at piece.bytes 10 [] })

pub closed-lacks : (piece : Piece) → ends_newline piece.bytes ≡ false → closed piece ≡ record { kind = piece.kind; bytes = piece.bytes ++ 10 ∷ [] }
closed-lacks piece lacks = ap (with_bytes piece) (cond-false (ends_newline piece.bytes) piece.bytes (piece.bytes ++ 10 ∷ []) lacks)

pub bare-closed : (piece : Piece) → ends_newline piece.bytes ≡ false → bare (closed piece) ≡ piece
bare-closed piece lacks = ap bare (closed-lacks piece lacks) ∙ ap (with_bytes piece) (without_newline-push piece.bytes)

-- ---- a comment for each physical line

-- one line, with its newline
pub record IsPhysicalLine (line : List ℕ) : Type 0 where
  pub one : is_line (λ _. true) line ≡ true
  pub ends : ends_newline line ≡ true

on_first-some : (b : ℕ) (lines : List (List ℕ)) → 0 < length (on_first b lines)
on_first-some b [] = omega arith
on_first-some b (line ∷ lines) = omega arith

physical_lines-some : (b : ℕ) (bs : List ℕ) → 0 < length (physical_lines (b ∷ bs))
physical_lines-some b bs =
    cond_both (b == 10) ((b ∷ []) ∷ physical_lines bs) (on_first b (physical_lines bs)) (λ lines. 0 < length lines)
    (λ _. omega arith) (λ _. on_first-some b (physical_lines bs))

on_first-all : (b : ℕ) (lines : List (List ℕ)) → (b == 10) ≡ false → 0 < length lines → AllByRecursion IsPhysicalLine lines → AllByRecursion IsPhysicalLine (on_first b lines)
on_first-all b [] plain some all = absurd (omega (arith, some))
on_first-all b (line ∷ lines) plain some all = (record { one = rw plain (all.0.one); ends = ends_newline-cons b line all.0.ends }, all.1)

IsPhysicalLine-newline : (b : ℕ) → (b == 10) ≡ true → IsPhysicalLine (b ∷ [])
IsPhysicalLine-newline b newline = record { one = rw newline refl; ends = newline }

physical_lines-all : (bs : List ℕ) → ends_newline bs ≡ true → AllByRecursion IsPhysicalLine (physical_lines bs)
physical_lines-all [] ends = tt
physical_lines-all (b ∷ []) ends = rw ends (IsPhysicalLine-newline b ends, tt)
physical_lines-all (b ∷ c ∷ cs) ends =
    let more = physical_lines-all (c ∷ cs) ends in
    cond_both (b == 10) ((b ∷ []) ∷ physical_lines (c ∷ cs)) (on_first b (physical_lines (c ∷ cs))) (AllByRecursion IsPhysicalLine)
    (λ newline. (IsPhysicalLine-newline b newline, more))
    (λ plain. on_first-all b (physical_lines (c ∷ cs)) plain (physical_lines-some c cs) more)

pub AllByRecursion-map : {X Y : Type 0} (P : X → Type 0) (Q : Y → Type 0) (f : X → Y) → ((x : X) → P x → Q (f x)) → (xs : List X) → AllByRecursion P xs → AllByRecursion Q (map f xs)
AllByRecursion-map P Q f each [] all = tt
AllByRecursion-map P Q f each (x ∷ xs) all = (each x all.0, AllByRecursion-map P Q f each xs all.1)

is_line-bare : (test : ℕ → Bool) (bs : List ℕ) → is_line test bs ≡ true → is_line test (without_newline bs) ≡ true
is_line-bare test [] line = refl
is_line-bare test (b ∷ []) line = cond_both (b == 10) [] (b ∷ []) (λ rest. is_line test rest ≡ true) (λ _. refl) (λ _. line)
is_line-bare test (b ∷ c ∷ cs) line =
    let edit = plain_step (b == 10) (test b && is_line test (c ∷ cs)) line in
    let parts = and_parts (test b) (is_line test (c ∷ cs)) edit.1 in
    rw edit.0 (and_from (test b) _ parts.0 (is_line-bare test (c ∷ cs) parts.1))

is_comment-bare : (line : List ℕ) → is_line (λ _. true) line ≡ true → is_comment (without_newline (35 ∷ line)) ≡ true
is_comment-bare [] one = refl
is_comment-bare (b ∷ bs) one = is_line-bare (λ _. true) (b ∷ bs) one

-- `#` before a line
abbrev comment_of : List ℕ → Piece
comment_of line = record { kind = Comment; bytes = 35 ∷ line }

module _ (piece : Piece) (ends : ends_newline piece.bytes ≡ true) where
  pub commented_are_closed : AllByRecursion IsClosed (comments_of piece.bytes)
  commented_are_closed =
      AllByRecursion-map IsPhysicalLine IsClosed comment_of (λ line is. record { element = is.one; ends = ends_newline-cons 35 line is.ends })
      (physical_lines piece.bytes) (physical_lines-all piece.bytes ends)

  pub commented_are_bare : AllByRecursion IsBare (comments_of piece.bytes)
  commented_are_bare =
      AllByRecursion-map IsPhysicalLine IsBare comment_of (λ line is. is_comment-bare line is.one) (physical_lines piece.bytes) (physical_lines-all piece.bytes ends)

length-physical_lines : (bs : List ℕ) → 0 < length bs → 0 < length (physical_lines bs)
length-physical_lines [] some = absurd (omega (arith, some))
length-physical_lines (b ∷ bs) some = physical_lines-some b bs

pub length-comments : (bytes : List ℕ) → 0 < length bytes → 1 ≤ length (comments_of bytes)
length-comments bytes some = omega (arith, length-map (physical_lines bytes) comment_of, length-physical_lines bytes some)

-- ---- a field with a plain name

pub colon_of-name : (name rest : List ℕ) → is_plain_name name ≡ true → colon_of (name ++ 58 ∷ rest) ≡ Some (length name)
colon_of-name [] rest plain = absurd (false≢true plain)
colon_of-name (x ∷ xs) rest plain =
    let parts = and_parts (is_letter x) (list_all continues_name xs) plain in
    rw (or_left (is_letter x) (x == 37) parts.0) (ap (option_map suc) (name_end-all xs rest parts.1))

is_field-named : (name body : List ℕ) → is_plain_name name ≡ true → is_body body ≡ true → is_field (name ++ 58 ∷ body) ≡ true
is_field-named name body plain passes =
    is_named-at is_body (name ++ 58 ∷ body) (length name) (colon_of-name name body plain) ∙ ap is_body (after_colon name body) ∙ passes

-- ---- the canonical field

is_joined-folded : (before : ℕ) (value : List ℕ) → is_joined before (folded value) ≡ true
is_joined-folded before [] = refl
is_joined-folded before (x ∷ xs) =
    cond_both (x == 10) (10 ∷ 43 ∷ 32 ∷ folded xs) (x ∷ folded xs) (λ text. is_joined before text ≡ true)
    (λ newline. and_from _ _ (or_right _ true refl) (is_joined-folded 32 xs))
    (λ plain. rw plain (is_joined-folded x xs))

is_dangling-folded : (before : ℕ) (value : List ℕ) → is_foldable before value ≡ true → is_dangling before (folded value) ≡ false
is_dangling-folded before [] foldable = not-true (before == 92) foldable
is_dangling-folded before (x ∷ xs) foldable =
    let parts = and_parts (not (x == 10 && before == 92)) (is_foldable x xs) foldable in
    cond_both (x == 10) (10 ∷ 43 ∷ 32 ∷ folded xs) (x ∷ folded xs) (λ text. is_dangling before text ≡ false)
    (λ newline. or_from (before == 92 && true && false) (is_dangling 32 (folded xs)) (and_right _ false refl)
    (is_dangling-folded 32 xs (is_foldable-same 32 x xs (ap (λ b. b == 92) (sym (eqb-true x 10 newline))) ∙ parts.1)))
    (λ plain. or_from (before == 92 && x == 10 && is_nil (folded xs)) (is_dangling x (folded xs)) (and_left _ _ (and_right _ _ plain)) (is_dangling-folded x xs parts.1))

module _ (name value : List ℕ) (plain : is_plain_name name ≡ true) (foldable : is_foldable 32 value ≡ true) where
  pub canonical_is_closed : IsClosed (canonical name value)
  canonical_is_closed = record {
    element = is_field-field_of name value plain foldable;
    ends = ends_newline-append name (58 ∷ 32 ∷ (folded value ++ 10 ∷ [])) (ends_newline-append (58 ∷ 32 ∷ folded value) (10 ∷ []) refl);
  }

  is_body-folded : is_body (32 ∷ folded value) ≡ true
  is_body-folded = and_from (is_joined 32 (folded value)) _ (is_joined-folded 32 value) (not_from_false _ (is_dangling-folded 32 value foldable))

  without_newline-field_of : without_newline (field_of name value) ≡ name ++ 58 ∷ 32 ∷ folded value
  without_newline-field_of =
      ap without_newline (sym (append_assoc name (58 ∷ 32 ∷ folded value) (10 ∷ []))) ∙ without_newline-push (name ++ 58 ∷ 32 ∷ folded value)

  pub canonical_is_bare : IsBare (canonical name value)
  canonical_is_bare = ap is_field without_newline-field_of ∙ is_field-named name (32 ∷ folded value) plain is_body-folded

-- ---- another name

-- a field, cut at its colon
pub record IsCutField (piece : Piece) : Type 0 where
  pub name : List ℕ
  pub body : List ℕ
  pub bytes : piece.bytes ≡ name ++ 58 ∷ body
  pub named : name_of piece ≡ name
  pub passes : is_body body ≡ true

name_of-found : (kind : Kind) (bytes : List ℕ) (c : ℕ) → kind ≡ Field → colon_of bytes ≡ Some c → name_of (record { kind = kind; bytes = bytes }) ≡ take c bytes
name_of-found kind bytes c field found =
    ap (λ k. name_of (record { kind = k; bytes = bytes })) field ∙ ap (λ o. option_map_or (λ c. take c bytes) o []) found

pub field_is_cut : (piece : Piece) → IsElement piece → piece.kind ≡ Field → IsCutField piece
field_is_cut piece whole field =
    let bytes = piece.bytes in
    let is : IsNamed is_body bytes = IsNamed-true is_body bytes (ap (λ k. is_element k bytes) (sym field) ∙ whole) in
    let c = is.colon in
    record {
      name = take c bytes;
      body = drop (c + 1) bytes;
      bytes = sym (take-append-drop c bytes)
          ∙ ap (λ rest. take c bytes ++ rest) (drop_more bytes c 0 is.within ∙ ap (λ b. b ∷ drop (c + 1) bytes) (colon_of-byte bytes c is.found));
      named = name_of-found piece.kind bytes c field is.found;
      passes = is.passes;
    }

name_of-push : (kind : Kind) (bytes : List ℕ) → is_element kind bytes ≡ true → name_of (record { kind = kind; bytes = bytes ++ 10 ∷ [] }) ≡ name_of (record { kind = kind; bytes = bytes })
name_of-push Blank bytes whole = refl
name_of-push Comment bytes whole = refl
name_of-push Field bytes whole =
    let is : IsNamed is_body bytes = IsNamed-true is_body bytes whole in
    let c = is.colon in
    let within : c ≤ length bytes = omega (arith, is.within) in
    name_of-found Field (bytes ++ 10 ∷ []) c refl (colon_of-append bytes (10 ∷ []) c is.found)
    ∙ take-append-le c bytes (10 ∷ []) within
    ∙ sym (name_of-found Field bytes c refl is.found)

-- a newline at its end doesn't change the name
pub name_of-closed : (piece : Piece) → IsElement piece → name_of (closed piece) ≡ name_of piece
name_of-closed piece whole =
    cond_both (ends_newline piece.bytes) piece.bytes (piece.bytes ++ 10 ∷ []) (λ bytes. name_of (with_bytes piece bytes) ≡ name_of piece) (λ _. refl) (λ _. name_of-push piece.kind piece.bytes whole)

pub kind-closed : (piece : Piece) → (closed piece).kind ≡ piece.kind
kind-closed piece = refl

module _ (fresh : List ℕ) (plain : is_plain_name fresh ≡ true) (piece : Piece) (whole : IsElement piece) (field : piece.kind ≡ Field) where
  cut : IsCutField piece
  cut = field_is_cut piece whole field

  drop-name : drop (length (name_of piece)) piece.bytes ≡ 58 ∷ cut.body
  drop-name =
      ap (λ name. drop (length name) piece.bytes) cut.named ∙ ap (drop (length cut.name)) cut.bytes ∙ drop_at cut.name (58 ∷ cut.body) (length cut.name) refl

  bytes-renamed : (renamed fresh piece).bytes ≡ fresh ++ 58 ∷ cut.body
  bytes-renamed = ap (λ rest. fresh ++ rest) drop-name

  pub renamed_is_element : IsElement (renamed fresh piece)
  renamed_is_element = ap (λ k. is_element k (renamed fresh piece).bytes) field ∙ ap is_field bytes-renamed ∙ is_field-named fresh cut.body plain cut.passes

  pub renamed_is_closed : ends_newline piece.bytes ≡ true → IsClosed (renamed fresh piece)
  renamed_is_closed ends = record {
    element = renamed_is_element;
    ends = ap ends_newline bytes-renamed ∙ ends_newline-at fresh 58 cut.body ∙ sym (ends_newline-at cut.name 58 cut.body) ∙ sym (ap ends_newline cut.bytes) ∙ ends;
  }

  -- renamed without its newline
  within_name : length (name_of piece) ≤ length piece.bytes
  within_name = let parted : drop (length (name_of piece)) piece.bytes ≡ 58 ∷ cut.body = drop-name in
      omega (arith, ap length parted, length-drop (length (name_of piece)) piece.bytes)

  bytes-with_newline : (renamed fresh (with_newline piece)).bytes ≡ (renamed fresh piece).bytes ++ 10 ∷ []
  bytes-with_newline =
      ap (λ name. fresh ++ drop (length name) (piece.bytes ++ 10 ∷ [])) (name_of-push piece.kind piece.bytes whole)
      ∙ ap (λ rest. fresh ++ rest) (drop-append-le (length (name_of piece)) piece.bytes (10 ∷ []) within_name)
      ∙ sym (append_assoc fresh (drop (length (name_of piece)) piece.bytes) (10 ∷ []))

  pub renamed_is_bare : ends_newline piece.bytes ≡ false → IsBare (renamed fresh (closed piece))
  renamed_is_bare lacks =
      ap (λ p. is_element (renamed fresh p).kind (without_newline (renamed fresh p).bytes)) (closed-lacks piece lacks)
      ∙ ap (λ bytes. is_element piece.kind (without_newline bytes)) bytes-with_newline
      ∙ ap (is_element piece.kind) (without_newline-push (renamed fresh piece).bytes)
      ∙ renamed_is_element

-- ---- the new elements of a script are well formed, with the newline at the end of the text or without it

-- ---- well-formed elements in a row

-- well formed, and all but the last end in a newline
pub record AreWhole (pieces : List Piece) : Type 0 where
  pub well_formed : AllByRecursion IsElement pieces
  pub lines_end : EndInNewlines pieces

pub AreWhole-nil : AreWhole []
AreWhole-nil = record { well_formed = tt; lines_end = tt }

AreWhole-cons : (piece : Piece) (pieces : List Piece) → IsClosed piece → AreWhole pieces → AreWhole (piece ∷ pieces)
AreWhole-cons piece [] is are = record { well_formed = (is.element, tt); lines_end = tt }
AreWhole-cons piece (next ∷ pieces) is are = record { well_formed = (is.element, are.well_formed); lines_end = (is.ends, are.lines_end) }

pub AreWhole-append : (prefix rest : List Piece) → AllByRecursion IsClosed prefix → AreWhole rest → AreWhole (prefix ++ rest)
AreWhole-append [] rest closed are = are
AreWhole-append (piece ∷ prefix) rest closed are = AreWhole-cons piece (prefix ++ rest) closed.0 (AreWhole-append prefix rest closed.1 are)

pub AreWhole-closed : (pieces : List Piece) → AllByRecursion IsClosed pieces → AreWhole pieces
AreWhole-closed pieces closed = subst AreWhole (append-nil pieces) (AreWhole-append pieces [] closed AreWhole-nil)

pub AreWhole-opened : (pieces : List Piece) → AllByRecursion IsClosed pieces → AllByRecursion IsBare pieces → AreWhole (opened pieces)
AreWhole-opened [] closed bares = AreWhole-nil
AreWhole-opened (piece ∷ []) closed bares = record { well_formed = (bares.0, tt); lines_end = tt }
AreWhole-opened (piece ∷ next ∷ pieces) closed bares = AreWhole-cons piece (opened (next ∷ pieces)) closed.0 (AreWhole-opened (next ∷ pieces) closed.1 bares.1)

-- ---- what an edit makes of an element

-- What stands instead of an element is well formed, with newlines and, where the element has none at its end, without.
pub record CanStandFor (piece : Piece) (new : List Piece) : Type 0 where
  pub lines : AllByRecursion IsClosed new
  pub bares : ends_newline piece.bytes ≡ false → AllByRecursion IsBare new
