-- What is written of the members, the names and the imports of a class.
use Rattle.std.proofs.Common.{◌≡◌, ℕ, ◌+◌, Bool, true, false, List, [], ◌∷◌, ◌++◌, map, take, length, refl, sym, ap, ◌∙◌, append_assoc}
use Rattle.std.proofs.lemmas.List.{append-nil, take_more}
use Rattle.bj_expr_tree.specs.declared.types.NamedPlace.{NamedPlace}
use Rattle.bj_tree.specs.declared.class.ImportTree.{ImportTree}
use Rattle.bj_tree.specs.declared.member.MemberTree.{MemberTree}
use Rattle.bj_writer.specs.declared.writer.Writer.{Writer}
use Rattle.bj_writer.specs.Pieces.{Piece, Line, Wrote}
use Rattle.bj_layout.specs.Exprs.{keyword, spaced}
use Rattle.bj_layout.specs.Classes.{name_list, maybe_names, each, import_pieces, imports_pieces, is_field, member_pieces, members_behind, members_pieces}
use Rattle.bj_layout.specs.Parts.{before_next, gap_between}
use Rattle.bj_layout.proofs.Writing.{At, next_more, then_wrote, nothing_wrote, wrote_as, prefix_length}

-- ---- names and imports, if there are any

pub wrote_no_names : {a : Writer} (before : List ℕ) {xs : List NamedPlace} → xs ≡ [] → Wrote a a (maybe_names before xs)
wrote_no_names before e = wrote_as (ap (maybe_names before) e) nothing_wrote

pub wrote_names : {a b c : Writer} (before : List ℕ) (xs : List NamedPlace) → (xs ≡ [] → false ≡ true) → Wrote a b (spaced (keyword before)) → Wrote b c (name_list xs) → Wrote a c (maybe_names before xs)
wrote_names before [] e h k = let never : false ≡ true = e refl in cc
wrote_names before (x ∷ xs) e h k = then_wrote h k

pub wrote_no_imports : {a : Writer} {xs : List ImportTree} → xs ≡ [] → Wrote a a (imports_pieces xs)
wrote_no_imports e = wrote_as (ap imports_pieces e) nothing_wrote

pub wrote_imports : {a b c : Writer} (xs : List ImportTree) → (xs ≡ [] → false ≡ true) → Wrote a b (each (map import_pieces xs)) → Wrote b c (Line 0 ∷ []) → Wrote a c (imports_pieces xs)
wrote_imports [] e h k = let never : false ≡ true = e refl in cc
wrote_imports (x ∷ xs) e h k = then_wrote h k

-- ---- members

-- whether the last member is a field
abbrev pub ends_with_field : Bool → List MemberTree → Bool
ends_with_field was [] = was
ends_with_field was (x ∷ xs) = ends_with_field (is_field x) xs

last_is_field : (was : Bool) (xs : List MemberTree) (x : MemberTree) → ends_with_field was (xs ++ x ∷ []) ≡ is_field x
last_is_field was [] x = refl
last_is_field was (y ∷ xs) x = last_is_field (is_field y) xs x

behind_end : (was : Bool) (xs : List MemberTree) (x : MemberTree)
    → members_behind was (xs ++ x ∷ []) ≡ members_behind was xs ++ (gap_between (ends_with_field was xs) (is_field x) ++ (Line 4 ∷ member_pieces x))
behind_end was [] x = ap (λ (w : List Piece). gap_between was (is_field x) ++ (Line 4 ∷ w)) (append-nil (member_pieces x))
behind_end was (y ∷ xs) x =
    let rest : List Piece = gap_between (ends_with_field (is_field y) xs) (is_field x) ++ (Line 4 ∷ member_pieces x) in
    ap (λ (w : List Piece). gap_between was (is_field y) ++ (Line 4 ∷ (member_pieces y ++ w))) (behind_end (is_field y) xs x)
    ∙ (ap (λ (w : List Piece). gap_between was (is_field y) ++ (Line 4 ∷ w)) (sym (append_assoc (member_pieces y) (members_behind (is_field y) xs) rest))
    ∙ sym (append_assoc (gap_between was (is_field y)) (Line 4 ∷ (member_pieces y ++ members_behind (is_field y) xs)) rest))

members_end : (xs : List MemberTree) (x : MemberTree)
    → members_pieces (xs ++ x ∷ []) ≡ members_pieces xs ++ (before_next (gap_between (ends_with_field false xs) (is_field x)) (length xs) ++ (Line 4 ∷ member_pieces x))
members_end [] x = ap (λ (w : List Piece). Line 4 ∷ w) (append-nil (member_pieces x))
members_end (y ∷ xs) x =
    let gap : List Piece = gap_between (ends_with_field (is_field y) xs) (is_field x) in
    ap (λ (w : List Piece). Line 4 ∷ (member_pieces y ++ w)) (behind_end (is_field y) xs x)
    ∙ (ap (λ (w : List Piece). Line 4 ∷ w) (sym (append_assoc (member_pieces y) (members_behind (is_field y) xs) (gap ++ (Line 4 ∷ member_pieces x))))
    ∙ ap (λ (w : List Piece). (Line 4 ∷ (member_pieces y ++ members_behind (is_field y) xs)) ++ (w ++ (Line 4 ∷ member_pieces x))) (sym (next_more gap (length xs))))

-- the front of a list, with one item more
front_next : (xs : List MemberTree) (n : ℕ) (x : MemberTree) → At xs n x → take (n + 1) xs ≡ take n xs ++ x ∷ []
front_next xs n x at = take_more xs n x at.below ∙ ap (λ (y : MemberTree). take n xs ++ y ∷ []) (sym at.is)

pub next_is_field : (xs : List MemberTree) (n : ℕ) (x : MemberTree) → At xs n x → is_field x ≡ ends_with_field false (take (n + 1) xs)
next_is_field xs n x at = sym (ap (ends_with_field false) (front_next xs n x at) ∙ last_is_field false (take n xs) x)

pub wrote_member : (xs : List MemberTree) (n : ℕ) (x : MemberTree) (was is : Bool) {a b c d e : Writer} → At xs n x → was ≡ ends_with_field false (take n xs) → is ≡ is_field x
    → Wrote a b (members_pieces (take n xs)) → Wrote b c (before_next (gap_between was is) n) → Wrote c d (Line 4 ∷ []) → Wrote d e (member_pieces x)
    → Wrote a e (members_pieces (take (n + 1) xs))
wrote_member xs n x was is at before here h k m r =
    wrote_as (ap members_pieces (front_next xs n x at) ∙ (members_end (take n xs) x
    ∙ ap (λ (i : ℕ). members_pieces (take n xs) ++ (before_next (gap_between (ends_with_field false (take n xs)) (is_field x)) i ++ (Line 4 ∷ member_pieces x))) (prefix_length xs n at.below)))
    (then_wrote h (then_wrote (wrote_as (ap (λ (t : Bool). before_next (gap_between t (is_field x)) n) (sym before) ∙ ap (λ (t : Bool). before_next (gap_between was t) n) (sym here)) k) (then_wrote m r)))
