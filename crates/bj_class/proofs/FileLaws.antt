-- The laws of the reader of a file.
use Rattle.std.proofs.Common.{◌≡◌, ℕ, false, refl, sym, subst, List}
use Rattle.bj_base.specs.declared.span.Span.{Span}
use Rattle.bj_tree.specs.declared.class.ImportTree.{ImportTree}
use Rattle.bj_tree.specs.declared.class.ClassTree.{ClassTree}
use Rattle.bj_tree.specs.declared.member.MemberTree.{MemberTree}
use Rattle.bj_grammar.specs.declared.terminal.Terminal.{Terminal}
use Rattle.bj_grammar.specs.declared.terminal.Terminal.TheVariants as t
use Rattle.bj_grammar.specs.Terminal.{terminal, same_terminal}
use Rattle.bj_grammar.specs.Reader.{Text}
use Rattle.bj_grammar.proofs.Laws.{Rel, Laws, Then, Same, Word, pure_laws, seq, tok, start, renamed}
use Rattle.bj_stmt.proofs.Expressions.{Given, Never}
use Rattle.bj_stmt.proofs.Leftmost.{Each, is_not}
use Rattle.bj_stmt.proofs.Small.{Any}
use Rattle.bj_class.specs.declared.head.ClassHead.{ClassHead}
use Rattle.bj_class.specs.Grammar as g
use Rattle.bj_class.specs.Grammar.{modifier_words, class_tree, Imports, Head, Members, File}
use Rattle.bj_class.specs.Reading as r
use Rattle.bj_class.specs.Deep.{DeepMembers}
use Rattle.bj_class.proofs.Needed.{Blocks, Heads}
use Rattle.bj_class.proofs.MemberTokens.{modifiers_first, annotations_first}
use Rattle.bj_class.proofs.MemberListLaws.{members_laws}

-- ---- what a class begins with is no import

abbrev NoImport : Terminal → Type 0
NoImport x = same_terminal x t.Import ≡ false

modifier_imports : Each NoImport modifier_words
unfolding same_terminal
modifier_imports = (refl, (refl, (refl, (refl, (refl, (refl, (refl, (refl, tt))))))))

sign_facts : (same_terminal t.At t.Import ≡ false) × (same_terminal t.Class t.Import ≡ false) × (same_terminal t.Interface t.Import ≡ false)
unfolding same_terminal
sign_facts = (refl, refl, refl)

head_no_import : (place : ℕ → Span) (s : Text) {a : ClassHead} {i j : ℕ} → Head place s a i j → same_terminal (terminal (s i)) t.Import ≡ false
head_no_import place s (g.class_head {n = n} d e o w x ns c same at) = annotations_first place s NoImport sign_facts.0 d (modifiers_first place s NoImport modifier_imports e (is_not (terminal (s n)) t.Class t.Import o sign_facts.1))
head_no_import place s (g.interface_head {n = n} d e o w ns c same at) = annotations_first place s NoImport sign_facts.0 d (modifiers_first place s NoImport modifier_imports e (is_not (terminal (s n)) t.Interface t.Import o sign_facts.2))

-- what may not follow imports
abbrev pub AfterImports : {A : Type 0} → A → Terminal → Type 0
AfterImports a x = same_terminal x t.Import ≡ false

module _ (place : ℕ → Span) (most : ℕ) (given : Given place most) (room : ℕ) (blocks : Blocks place most room) (heads : Heads place most)
    (imports_laws : Laws most (r.imports place most) (λ s a i j. Imports place s a i j) AfterImports Never)
    (head_laws : Laws most (r.head place most) (λ s a i j. Head place s a i j) Any Never) where
  abbrev pub DeepFile : Span → ClassTree → Type 0
  DeepFile at a = DeepMembers room at a.members

  abbrev Ended : List ℕ → List ImportTree → ClassHead → List MemberTree → ℕ → Rel ClassTree
  Ended file is h ms o = Word t.RightBrace (λ _. Same (class_tree file is h ms (place o)))

  abbrev Rest : List ℕ → List ImportTree → ClassHead → List MemberTree → Rel ClassTree
  Rest file is h ms = λ s a o j. Ended file is h ms o s a o j

  abbrev FileBy : List ℕ → Rel ClassTree
  FileBy file = Then (λ s a i j. Imports place s a i j) (λ is. Then (λ s a i j. Head place s a i j) (λ h. Then (λ s a i j. Members place s a i j) (Rest file is h)))

  abbrev pub FileRel : List ℕ → Rel ClassTree
  FileRel file = λ s a i j. File file place s a i j

  to_file : (file : List ℕ) (s : Text) (a : ClassTree) (i j : ℕ) → FileBy file s a i j → File file place s a i j
  to_file file s a i j d = let h = d.rest in let ms = h.rest in g.in_file d.first h.first ms.first ms.rest.kind ms.rest.rest.tree ms.rest.rest.at

  from_file : (file : List ℕ) (s : Text) {a : ClassTree} {i j : ℕ} → File file place s a i j → FileBy file s a i j
  from_file file s (g.in_file {is = is} {h = h} {ms = ms} {k = k} {n = n} {o = o} d e c b same at) = record {
    part = is;
    at = k;
    first = d;
    rest = record { part = h; at = n; first = e; rest = record { part = ms; at = o; first = c; rest = record { kind = b; rest = record { tree = same; at = at } } } };
  }

  pub file_laws : (file : List ℕ) → Laws most (r.file_at place most room file) (FileRel file) Any DeepFile
  unfolding r.file_at
  file_laws file = renamed (FileRel file) Any
      (seq imports_laws (λ is. seq head_laws (λ h. seq (members_laws place most given room blocks heads)
      (λ ms. start {D = Ended file is h ms} (λ o. tok t.RightBrace refl (λ _. pure_laws most (class_tree file is h ms (place o)) Any DeepFile)))
      (λ s ms m a j d last. d.kind) (λ s ms m a j d at deep. subst (DeepFile at) (sym d.rest.tree) deep))
      (λ s h m a j d last. tt) (λ s h m a j d at never. absurd never))
      (λ s is m a j d last. head_no_import place s d.first) (λ s is m a j d at never. absurd never))
      (λ s a i j d. to_file file s a i j d) (λ s a i j d. from_file file s d) (λ a x e. e)
