-- What is read as a creation or a call is one, and the reverse.
use Rattle.std.proofs.Common.{◌≡◌, ◌≢◌, ℕ, suc, Bool, true, false, cond, ◌==◌, ◌&&◌, List, [], ◌∷◌, ◌++◌, length, take, drop, Option, Some, None, codes, refl, sym, ap, ◌∙◌}
use Rattle.std.proofs.lemmas.Bool.{eqb-true}
use Rattle.std.proofs.lemmas.List.{take-append-drop}
use Rattle.std.proofs.lemmas.Option.{option_and_then_some}
use Rattle.std.proofs.lemmas.Slice.Eq.{bytes_eq-Decides}
use Rattle.std.proofs.Math.Seq.{take-append_seam, drop-append_seam}
use Rattle.std.specs.Option.{option_and_then}
use Rattle.std.specs.Str.{bytes_eq}
use Rattle.bj_core.specs.declared.tree.Expr.{Expr}
use Rattle.bj_sum.specs.declared.cells.CellCall.{CellCall}
use Rattle.bj_sum.specs.declared.cells.CellCall.TheVariants.{Add, Get}
use Rattle.bj_sum.specs.Reading.{sum_of}
use Rattle.bj_sum.specs.Cells.{AreSpaces, AreLetters, is_letter, InParentheses, IsCreation, IsMember, IsCall, add, get, skipped, behind_sign, behind_word, is_blank, with_front, before_close, enclosed, enclosed_behind, argument_behind, creation_of, letters_of, get_of, add_or_get, method_of, behind_point, call_named, call_of}
use Rattle.bj_sum.proofs.CellTurns.{and_false, not_there}

-- ---- spaces

record Spaced (text rest : List ℕ) : Type 0 where
  before : List ℕ
  blank : AreSpaces before
  text_is : text ≡ before ++ rest

-- the text begins with the spaces that are skipped
module _ (b : ℕ) (bs : List ℕ) (more : Spaced bs (skipped bs)) where
  spaced_by : (x : Bool) → (b == 32) ≡ x → Spaced (b ∷ bs) (cond x (skipped bs) (b ∷ bs))
  spaced_by true is = record { before = b ∷ more.before; blank = (eqb-true b 32 is, more.blank); text_is = ap (λ (t : List ℕ). b ∷ t) more.text_is }
  spaced_by false is = record { before = []; blank = tt; text_is = refl }

spaced : (text : List ℕ) → Spaced text (skipped text)
spaced [] = record { before = []; blank = tt; text_is = refl }
spaced (b ∷ bs) = spaced_by b bs (spaced bs) (b == 32) refl

-- spaces are skipped
skips : (before rest : List ℕ) → AreSpaces before → skipped (before ++ rest) ≡ skipped rest
skips [] rest blank = refl
skips (b ∷ bs) rest blank =
    ap (λ (x : Bool). cond x (skipped (bs ++ rest)) (b ∷ (bs ++ rest))) (ap (λ (c : ℕ). c == 32) blank.0) ∙ skips bs rest blank.1

module _ (b : ℕ) (bs : List ℕ) (more : is_blank bs ≡ true → AreSpaces bs) where
  spaces_by : (x : Bool) → (b == 32) ≡ x → (x && is_blank bs) ≡ true → AreSpaces (b ∷ bs)
  spaces_by true is blank = (eqb-true b 32 is, more blank)
  spaces_by false is blank = absurd (cc)

spaces : (text : List ℕ) → is_blank text ≡ true → AreSpaces text
spaces [] blank = tt
spaces (b ∷ bs) blank = spaces_by b bs (spaces bs) (b == 32) refl blank

are_blank : (text : List ℕ) → AreSpaces text → is_blank text ≡ true
are_blank [] blank = refl
are_blank (b ∷ bs) blank = ap (λ (c : ℕ). (c == 32) && is_blank bs) blank.0 ∙ are_blank bs blank.1

-- ---- signs and words

sign_by : (sign b : ℕ) (bs rest : List ℕ) (x : Bool) → (b == sign) ≡ x → cond x (Some bs) None ≡ Some rest → b ∷ bs ≡ sign ∷ rest
sign_by sign b bs rest true is e =
    let same : bs ≡ rest = cc in
    ap (λ (c : ℕ). c ∷ bs) (eqb-true b sign is) ∙ ap (λ (t : List ℕ). sign ∷ t) same
sign_by sign b bs rest false is e = absurd (cc)

sign_stands : (sign : ℕ) (text rest : List ℕ) → behind_sign sign text ≡ Some rest → text ≡ sign ∷ rest
sign_stands sign [] rest e = absurd (cc)
sign_stands sign (b ∷ bs) rest e = sign_by sign b bs rest (b == sign) refl e

word_by : (word text rest : List ℕ) (x : Bool) → bytes_eq (take (length word) text) word ≡ x → cond x (Some (drop (length word) text)) None ≡ Some rest
    → text ≡ word ++ rest
word_by word text rest true is e =
    let same : drop (length word) text ≡ rest = cc in
    sym (take-append-drop (length word) text)
    ∙ (ap (λ (t : List ℕ). t ++ drop (length word) text) ((bytes_eq-Decides (take (length word) text) word).0 is) ∙ ap (λ (t : List ℕ). word ++ t) same)
word_by word text rest false is e = absurd (cc)

word_stands : (word text rest : List ℕ) → behind_word word text ≡ Some rest → text ≡ word ++ rest
word_stands word text rest e = word_by word text rest (bytes_eq (take (length word) text) word) refl e

is_behind_word : (word rest : List ℕ) → behind_word word (word ++ rest) ≡ Some rest
is_behind_word word rest =
    ap (λ (x : Bool). cond x (Some (drop (length word) (word ++ rest))) None) ((bytes_eq-Decides (take (length word) (word ++ rest)) word).1 (take-append_seam word rest))
    ∙ ap Some (drop-append_seam word rest)

-- ---- parentheses

record Closed (text inner : List ℕ) : Type 0 where
  behind : List ℕ
  blank : AreSpaces behind
  text_is : text ≡ inner ++ 41 ∷ behind

module _ (b : ℕ) (bs inner : List ℕ) (more : (front : List ℕ) → before_close bs ≡ Some front → Closed bs front) where
  -- a front that goes on
  front_by : (found : Option (List ℕ)) → before_close bs ≡ found → with_front b found ≡ Some inner → Closed (b ∷ bs) inner
  front_by None is e = absurd (cc)
  front_by (Some front) is e =
      let same : b ∷ front ≡ inner = cc in
      let c = more front is in
      record { behind = c.behind; blank = c.blank; text_is = ap (λ (t : List ℕ). b ∷ t) c.text_is ∙ ap (λ (t : List ℕ). t ++ 41 ∷ c.behind) same }

  closed_by : (x y : Bool) → (b == 41) ≡ x → is_blank bs ≡ y → cond (x && y) (Some []) (with_front b (before_close bs)) ≡ Some inner → Closed (b ∷ bs) inner
  closed_by true true is blank e =
      let same : [] ≡ inner = cc in
      record { behind = bs; blank = spaces bs blank; text_is = ap (λ (c : ℕ). c ∷ bs) (eqb-true b 41 is) ∙ ap (λ (t : List ℕ). t ++ 41 ∷ bs) same }
  closed_by true false is blank e = front_by (before_close bs) refl e
  closed_by false y is blank e = front_by (before_close bs) refl e

closed : (text inner : List ℕ) → before_close text ≡ Some inner → Closed text inner
closed [] inner e = absurd (cc)
closed (b ∷ bs) inner e = closed_by b bs inner (closed bs) (b == 41) (is_blank bs) refl refl e

-- a text with a parenthesis is not blank
not_blank : (inner behind : List ℕ) → is_blank (inner ++ 41 ∷ behind) ≡ false
not_blank [] behind = refl
not_blank (b ∷ bs) behind = ap (λ (x : Bool). (b == 32) && x) (not_blank bs behind) ∙ and_false (b == 32)

is_before_close : (inner behind : List ℕ) → AreSpaces behind → before_close (inner ++ 41 ∷ behind) ≡ Some inner
is_before_close [] behind blank = ap (λ (x : Bool). cond x (Some []) (with_front 41 (before_close behind))) (are_blank behind blank)
is_before_close (b ∷ bs) behind blank = not_there b (bs ++ 41 ∷ behind) (not_blank bs behind) ∙ ap (with_front b) (is_before_close bs behind blank)

stands_enclosed : (text inner : List ℕ) → enclosed text ≡ Some inner → InParentheses text inner
stands_enclosed text inner e = option_and_then_some before_close (behind_sign 40 (skipped text)) inner e (λ rest sign close.
    let s = spaced text in
    let c = closed rest inner close in
    record {
      before = s.before;
      behind = c.behind;
      blank_before = s.blank;
      blank_behind = c.blank;
      text_is = s.text_is ∙ (ap (λ (t : List ℕ). s.before ++ t) (sign_stands 40 (skipped text) rest sign) ∙ ap (λ (t : List ℕ). s.before ++ 40 ∷ t) c.text_is);
    })

is_enclosed : (text inner : List ℕ) → InParentheses text inner → enclosed text ≡ Some inner
is_enclosed text inner p =
    ap (λ (t : List ℕ). option_and_then before_close (behind_sign 40 t)) (ap skipped p.text_is ∙ skips p.before (40 ∷ (inner ++ 41 ∷ p.behind)) p.blank_before)
    ∙ is_before_close inner p.behind p.blank_behind

record Behind (word text inner : List ℕ) : Type 0 where
  rest : List ℕ
  text_is : text ≡ word ++ rest
  stands : InParentheses rest inner

stands_behind : (word text inner : List ℕ) → enclosed_behind word text ≡ Some inner → Behind word text inner
stands_behind word text inner e = option_and_then_some enclosed (behind_word word text) inner e (λ rest is close.
    record { rest = rest; text_is = word_stands word text rest is; stands = stands_enclosed rest inner close })

is_behind : (word rest inner : List ℕ) → InParentheses rest inner → enclosed_behind word (word ++ rest) ≡ Some inner
is_behind word rest inner p = ap (option_and_then enclosed) (is_behind_word word rest) ∙ is_enclosed rest inner p

is_argument : (word rest inner : List ℕ) (argument : Expr) → InParentheses rest inner → sum_of inner ≡ Some argument
    → argument_behind word (word ++ rest) ≡ Some argument
is_argument word rest inner argument p reads = ap (option_and_then sum_of) (is_behind word rest inner p) ∙ reads

-- ---- creations

pub creation_stands : (text : List ℕ) (argument : Expr) → creation_of text ≡ Some argument → IsCreation text argument
creation_stands text argument e = option_and_then_some sum_of (enclosed_behind (codes "Cell") text) argument e (λ inner is reads.
    let b = stands_behind (codes "Cell") text inner is in
    record { rest = b.rest; inner = inner; text_is = b.text_is; enclosed = b.stands; reads = reads })

pub is_creation : (text : List ℕ) (argument : Expr) → IsCreation text argument → creation_of text ≡ Some argument
is_creation text argument c = ap creation_of c.text_is ∙ is_argument (codes "Cell") c.rest c.inner argument c.enclosed c.reads

-- ---- names

letters_by : (b : ℕ) (bs : List ℕ) (x : Bool) → is_letter b ≡ x → AreLetters (take (letters_of bs) bs) → AreLetters (take (cond x (suc (letters_of bs)) 0) (b ∷ bs))
letters_by b bs true is more = (is, more)
letters_by b bs false is more = tt

letters : (text : List ℕ) → AreLetters (take (letters_of text) text)
letters [] = tt
letters (b ∷ bs) = letters_by b bs (is_letter b) refl (letters bs)

-- a name ends where no letter follows
name_ends : (name rest : List ℕ) → AreLetters name → letters_of rest ≡ 0 → letters_of (name ++ rest) ≡ length name
name_ends [] rest all ends = ends
name_ends (b ∷ bs) rest all ends = ap (λ (x : Bool). cond x (suc (letters_of (bs ++ rest))) 0) all.0 ∙ ap suc (name_ends bs rest all.1 ends)

no_letter : (before rest : List ℕ) → AreSpaces before → letters_of (before ++ 46 ∷ rest) ≡ 0
no_letter [] rest blank = refl
no_letter (b ∷ bs) rest blank = ap (λ (c : ℕ). letters_of (c ∷ (bs ++ 46 ∷ rest))) blank.0

named : (name rest : List ℕ) → AreLetters name → letters_of rest ≡ 0 → call_of (name ++ rest) ≡ call_named name rest
named name rest all ends =
    ap (λ (n : ℕ). call_named (take n (name ++ rest)) (drop n (name ++ rest))) (name_ends name rest all ends)
    ∙ (ap (λ (t : List ℕ). call_named t (drop (length name) (name ++ rest))) (take-append_seam name rest) ∙ ap (call_named name) (drop-append_seam name rest))

-- ---- calls

record Pointed (text tail : List ℕ) : Type 0 where
  before : List ℕ
  behind : List ℕ
  blank_before : AreSpaces before
  blank_behind : AreSpaces behind
  text_is : text ≡ before ++ 46 ∷ (behind ++ tail)

pointed : (text tail : List ℕ) → behind_point text ≡ Some tail → Pointed text tail
pointed text tail e = option_and_then_some (λ behind. Some (skipped behind)) (behind_sign 46 (skipped text)) tail e (λ rest sign is.
    let same : skipped rest ≡ tail = cc in
    let s = spaced text in
    let m = spaced rest in
    record {
      before = s.before;
      behind = m.before;
      blank_before = s.blank;
      blank_behind = m.blank;
      text_is = s.text_is ∙ (ap (λ (t : List ℕ). s.before ++ t) (sign_stands 46 (skipped text) rest sign)
          ∙ (ap (λ (t : List ℕ). s.before ++ 46 ∷ t) m.text_is ∙ ap (λ (t : List ℕ). s.before ++ 46 ∷ (m.before ++ t)) same));
    })

is_behind_point : (before behind tail : List ℕ) → AreSpaces before → AreSpaces behind → skipped tail ≡ tail
    → behind_point (before ++ 46 ∷ (behind ++ tail)) ≡ Some tail
is_behind_point before behind tail blank_before blank_behind begins =
    ap (λ (t : List ℕ). option_and_then (λ behind. Some (skipped behind)) (behind_sign 46 t)) (skips before (46 ∷ (behind ++ tail)) blank_before)
    ∙ ap Some (skips behind tail blank_behind ∙ begins)

-- the parts of a call, where its method is found behind the point
module _ (text name rest tail : List ℕ) (some : name ≢ []) (all : AreLetters name) (text_is : text ≡ name ++ rest) (p : Pointed rest tail) where
  member : (method more : List ℕ) → tail ≡ method ++ more → IsMember text name method more
  member method more is = record {
    before = p.before;
    behind = p.behind;
    some = some;
    letters = all;
    blank_before = p.blank_before;
    blank_behind = p.blank_behind;
    text_is = text_is ∙ (ap (λ (t : List ℕ). name ++ t) p.text_is ∙ ap (λ (t : List ℕ). name ++ (p.before ++ 46 ∷ (p.behind ++ t))) is);
  }

  get_by : (call : CellCall) (inner : List ℕ) (x : Bool) → enclosed_behind (codes "get") tail ≡ Some inner → is_blank inner ≡ x → cond x (Some (Get name)) None ≡ Some call
      → IsCall text call
  get_by call inner true is blank e =
      let same : call ≡ Get name = cc in
      let b = stands_behind (codes "get") tail inner is in
      get name b.rest inner (member (codes "get") b.rest b.text_is) b.stands (spaces inner blank) same
  get_by call inner false is blank e = absurd (cc)

  get_found : (call : CellCall) (inner : Option (List ℕ)) → enclosed_behind (codes "get") tail ≡ inner → get_of name inner ≡ Some call → IsCall text call
  get_found call None is e = absurd (cc)
  get_found call (Some inner) is e = get_by call inner (is_blank inner) is refl e

  method_found : (call : CellCall) (argument : Option Expr) → argument_behind (codes "add") tail ≡ argument
      → add_or_get name argument (enclosed_behind (codes "get") tail) ≡ Some call → IsCall text call
  method_found call None is e = get_found call (enclosed_behind (codes "get") tail) refl e
  method_found call (Some argument) is e = option_and_then_some sum_of (enclosed_behind (codes "add") tail) argument is (λ inner stands reads.
      let same : call ≡ Add name argument = cc in
      let b = stands_behind (codes "add") tail inner stands in
      add name b.rest inner argument (member (codes "add") b.rest b.text_is) b.stands reads same)

call_found : (text name rest : List ℕ) (call : CellCall) → AreLetters name → text ≡ name ++ rest → call_named name rest ≡ Some call → IsCall text call
call_found text [] rest call all text_is e = absurd (cc)
call_found text (b ∷ bs) rest call all text_is e = option_and_then_some (method_of (b ∷ bs)) (behind_point rest) call e (λ tail point method.
    method_found text (b ∷ bs) rest tail (λ none. cc) all text_is (pointed rest tail point) call (argument_behind (codes "add") tail) refl method)

pub call_stands : (text : List ℕ) (call : CellCall) → call_of text ≡ Some call → IsCall text call
call_stands text call e =
    call_found text (take (letters_of text) text) (drop (letters_of text) text) call (letters text) (sym (take-append-drop (letters_of text) text)) e

has_name : (name rest tail : List ℕ) → name ≢ [] → behind_point rest ≡ Some tail → call_named name rest ≡ method_of name tail
has_name [] rest tail some point = absurd (some refl)
has_name (b ∷ bs) rest tail some point = ap (option_and_then (method_of (b ∷ bs))) point

-- a call is read by its method
is_member : (text name method rest : List ℕ) → IsMember text name method rest → skipped (method ++ rest) ≡ method ++ rest → call_of text ≡ method_of name (method ++ rest)
is_member text name method rest m begins =
    ap call_of m.text_is
    ∙ (named name (m.before ++ 46 ∷ (m.behind ++ (method ++ rest))) m.letters (no_letter m.before (m.behind ++ (method ++ rest)) m.blank_before)
    ∙ has_name name (m.before ++ 46 ∷ (m.behind ++ (method ++ rest))) (method ++ rest) m.some
    (is_behind_point m.before m.behind (method ++ rest) m.blank_before m.blank_behind begins))

pub is_call : (text : List ℕ) (call : CellCall) → IsCall text call → call_of text ≡ Some call
is_call text call (add name rest inner argument m p reads same) =
    is_member text name (codes "add") rest m refl
    ∙ (ap (λ (a : Option Expr). add_or_get name a (enclosed_behind (codes "get") (codes "add" ++ rest))) (is_argument (codes "add") rest inner argument p reads)
    ∙ ap Some (sym same))
is_call text call (get name rest inner m p blank same) =
    is_member text name (codes "get") rest m refl
    ∙ (ap (get_of name) (is_behind (codes "get") rest inner p)
    ∙ (ap (λ (x : Bool). cond x (Some (Get name)) None) (are_blank inner blank) ∙ ap Some (sym same)))
