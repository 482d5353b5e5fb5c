-- A class is what the checked reader finds, and its fault is the first.
use Rattle.std.proofs.Common.{◌≡◌, ℕ, suc, ◌+◌, ◌<◌, ◌≤◌, ◌⊎◌, inl, inr, Err, List, length, refl, sym, ap, ◌∙◌, subst, arith, le_refl}
use Rattle.bj_base.specs.declared.span.Span.{Span}
use Rattle.bj_base.specs.declared.fault.FaultCode.{FaultCode}
use Rattle.bj_base.specs.declared.fault.FaultCode.TheVariants as codes
use Rattle.bj_base.specs.declared.fault.Refusal.{Refusal}
use Rattle.bj_base.specs.declared.fault.Refusal.TheVariants as refusals
use Rattle.bj_token.specs.declared.token.Token.{Token}
use Rattle.bj_token.specs.declared.token.Tokens.{Tokens}
use Rattle.bj_tree.specs.declared.class.ClassTree.{ClassTree}
use Rattle.bj_rules.specs.declared.misfit.Misfit.{Misfit}
use Rattle.bj_grammar.specs.declared.stop.Stop.TheVariants as stops
use Rattle.bj_grammar.specs.Reader.{Answer, Found, Wrong, Over}
use Rattle.bj_grammar.specs.Given.{text_of, place_of, IsDeepAt}
use Rattle.bj_grammar.proofs.Laws.{Rel, Laws, Outcome}
use Rattle.bj_stmt.proofs.Small.{Any}
use Rattle.bj_class.specs.Grammar.{File}
use Rattle.bj_class.specs.Deep.{DeepMembers}
use Rattle.bj_class.specs.Reading.{file_at}
use Rattle.bj_class.proofs.LowMembers.{file_low, deep_high}
use Rattle.bj_parse.specs.declared.halt.Halt.{Halt}
use Rattle.bj_parse.specs.declared.halt.Halt.TheVariants as halts
use Rattle.bj_line.specs.Line.{most_nodes, IsStuck, spot}
use Rattle.bj_parse.specs.Checked.{Checked, Reads, Misfits, IsDeepChecked, HaltsAs, checked_file}
use Rattle.bj_parse.specs.Class.{IsClass, FirstMisfit, FirstFault, TooDeep, IsBehind, member_code, GivesClass, IsFirst, ClassFault, the_file, IsRefusalOf}
use Rattle.bj_line.proofs.Whole as whole
use Rattle.bj_parse.proofs.Items.{IsHalted}
use Rattle.bj_parse.proofs.FileRun.{Parts}
use Rattle.bj_parse.proofs.FileWhole as file
use Rattle.bj_parse.proofs.PartLaws.{parts}
use Rattle.bj_parse.proofs.EarlyNeeded.{Early}
use Rattle.bj_parse.proofs.EarlyMarks.{early}

module _ (tokens : Tokens) where
  abbrev items : List Token
  items = tokens.items

  abbrev steps : ℕ
  steps = suc (length items)

  abbrev p : Parts (place_of items) steps most_nodes
  p = parts (place_of items) steps

  abbrev marks : Early items steps most_nodes
  marks = early items

  abbrev FileRel : Rel ClassTree
  FileRel = λ s a i j. File tokens.class (place_of items) s a i j

  abbrev Deep : Span → ClassTree → Type 0
  Deep at a = DeepMembers most_nodes at a.members

  abbrev plain : Answer ClassTree
  plain = file_at (place_of items) steps most_nodes tokens.class (text_of items) 0

  laws : Laws steps (file_at (place_of items) steps most_nodes tokens.class) FileRel Any Deep
  laws = p.file_laws tokens.class

  -- ---- a class

  -- what is a class is read
  class_read : (a : ClassTree) → IsClass tokens.class items a → the_file tokens ≡ Reads (Found a (length items))
  class_read a d = file.file_fits items steps most_nodes p marks tokens.class a (length items) (whole.found _ FileRel Any Deep items laws (λ a. tt) a d.stands (λ at h. d.low (deep_high most_nodes at a.members h))) d.fits

  found_plain : (a : ClassTree) (at : ℕ) → the_file tokens ≡ Reads (Found a at) → plain ≡ Found a at
  found_plain a at e = (file.file_found items steps most_nodes p marks tokens.class a at e).plain

  at_end : (a : ClassTree) (at : ℕ) → the_file tokens ≡ Reads (Found a at) → length items ≤ at → at ≡ length items
  at_end a at e le = let h = whole.not_past _ FileRel Any Deep items laws (λ a. tt) a at (found_plain a at e) in omega arith

  pub whole_class : (a : ClassTree) (at : ℕ) → the_file tokens ≡ Reads (Found a at) → length items ≤ at → IsClass tokens.class items a
  whole_class a at e le =
      let f = file.file_found items steps most_nodes p marks tokens.class a at e in
      record { stands = whole.stands _ FileRel Any Deep items laws (λ a. tt) a (f.plain ∙ ap (Found a) (at_end a at e le)); fits = f.fits; low = file_low (place_of items) steps most_nodes tokens.class (text_of items) 0 a at f.plain }

  same_found : (r : Checked ClassTree) (a b : ClassTree) (m n : ℕ) → r ≡ Reads (Found a m) → r ≡ Reads (Found b n) → (a ≡ b) × (m ≡ n)
  same_found (Reads (Found c k)) a b m n e f = (cc, cc)
  same_found (Reads (Wrong k)) a b m n e f = absurd (cc)
  same_found (Reads (Over k place)) a b m n e f = absurd (cc)
  same_found (Misfits x) a b m n e f = absurd (cc)

  pub only_class : (a : ClassTree) (at : ℕ) → the_file tokens ≡ Reads (Found a at) → (b : ClassTree) → IsClass tokens.class items b → a ≡ b
  only_class a at e b d = (same_found (the_file tokens) a b at (length items) e (class_read b d)).0

  -- ---- behind a class

  no_misfit_found : (a : ClassTree) (at : ℕ) → the_file tokens ≡ Reads (Found a at) → (x : Misfit) → FirstMisfit items x → ⊥
  no_misfit_found a at e x d = subst IsHalted e (file.file_met items steps most_nodes p marks tokens.class x d)

  first_of : (k : ℕ) → IsStuck items plain k → FirstFault tokens.class items k
  first_of k stuck = record {
    begins = whole.some_begin _ FileRel Any Deep items laws (λ a. tt) k stuck;
    no_more = λ others same w. whole.none_more _ FileRel Any Deep items laws (λ a. tt) k k (le_refl k) stuck others w.0 same w.1;
  }

  pub none_behind : (a : ClassTree) (at : ℕ) → the_file tokens ≡ Reads (Found a at) → at < length items → (b : ClassTree) → IsClass tokens.class items b → ⊥
  none_behind a at e low b d = let z = (same_found (the_file tokens) a b at (length items) e (class_read b d)).1 in absurd (omega arith)

  pub behind : (a : ClassTree) (at : ℕ) → the_file tokens ≡ Reads (Found a at) → at < length items → IsFirst tokens (spot tokens at) codes.Syntax
  behind a at e low =
      let plainly = found_plain a at e in
      record {
        index = at;
        first = first_of at (inr (a, plainly, low));
        place = refl;
        coded = inl ((a, laws.sound (text_of items) 0 a at plainly), refl);
        fits = λ x d. no_misfit_found a at e x d;
      }

  -- ---- halted

  no_behind : (k : ℕ) → plain ≡ Wrong k → IsBehind tokens.class items k → ⊥
  no_behind k e w = of plain e (laws.complete (text_of items) 0 w.0 k w.1 tt)
    where
      of : (r : Answer ClassTree) → r ≡ Wrong k → Outcome steps Deep r w.0 0 k → ⊥
      of r e (inl h) = absurd (cc)
      of r e (inr x) = let is = x.is in absurd (cc)

  pub stuck_first : (k : ℕ) → the_file tokens ≡ Reads (Wrong k) → IsFirst tokens (spot tokens k) (member_code (text_of items) k)
  stuck_first k e =
      let plainly : plain ≡ Wrong k = file.file_wrong items steps most_nodes p marks tokens.class k e in
      record {
        index = k;
        first = first_of k (inl plainly);
        place = refl;
        coded = inr (no_behind k plainly, refl);
        fits = λ x d. subst IsHalted e (file.file_met items steps most_nodes p marks tokens.class x d);
      }

  -- a checked reading that passes a limit does so where the other does
  plain_deep : (at : Span) → IsDeepChecked at (the_file tokens) → IsDeepAt at plain
  plain_deep at h = of (the_file tokens) refl h
    where
      of : (r : Checked ClassTree) → the_file tokens ≡ r → IsDeepChecked at r → IsDeepAt at plain
      of (Reads (Found a j)) e h = absurd h
      of (Reads (Wrong k)) e h = absurd h
      of (Reads (Over k place)) e h = subst (IsDeepAt at) (sym (file.file_over items steps most_nodes p marks tokens.class k place e)) h
      of (Misfits x) e h = absurd h

  too_deep : (at : Span) → IsDeepChecked at (the_file tokens) → TooDeep tokens.class items at
  too_deep at h = whole.deep_at _ FileRel Any Deep items laws (λ a. tt) at (plain_deep at h)

  -- no class is read where reading halts
  halted_none : (e : Halt) → (e ≡ halts.Stopped stops.Memory → ⊥) → HaltsAs e (the_file tokens) → (a : ClassTree) → IsClass tokens.class items a → ⊥
  halted_none (halts.Stopped stops.Memory) some h a d = some refl
  halted_none (halts.Stopped (stops.Syntax at)) some h a d = let clash : Reads (Wrong at) ≡ Reads (Found a (length items)) = sym h ∙ class_read a d in absurd (cc)
  halted_none (halts.Stopped (stops.Deep at)) some h a d = absurd (subst (IsDeepChecked at) (class_read a d) h)
  halted_none (halts.Unfit x) some h a d = let clash : Misfits x ≡ Reads (Found a (length items)) = sym h ∙ class_read a d in absurd (cc)

  pub refused_only : (e : Halt) (r : Refusal) → HaltsAs e (the_file tokens) → IsRefusalOf tokens e r → (a : ClassTree) → IsClass tokens.class items a → GivesClass (Err r) a
  refused_only e refusals.NoMemory h is a d = tt
  refused_only (halts.Stopped stops.Memory) (refusals.Fault f) h is a d = absurd is
  refused_only (halts.Stopped (stops.Syntax at)) (refusals.Fault f) h is a d = halted_none (halts.Stopped (stops.Syntax at)) (λ e. cc) h a d
  refused_only (halts.Stopped (stops.Deep at)) (refusals.Fault f) h is a d = halted_none (halts.Stopped (stops.Deep at)) (λ e. cc) h a d
  refused_only (halts.Unfit x) (refusals.Fault f) h is a d = halted_none (halts.Unfit x) (λ e. cc) h a d

  moved : (at place : Span) (code told : FaultCode) → at ≡ place → code ≡ told → IsFirst tokens place told → IsFirst tokens at code
  moved at place code told e f d = subst (λ (z : Span). IsFirst tokens z code) (sym e) (subst (λ (c : FaultCode). IsFirst tokens place c) (sym f) d)

  told : (x : Misfit) (at : Span) (code : FaultCode) → at ≡ x.at → code ≡ x.code → FirstMisfit items x → FirstMisfit items (record { at = at; code = code })
  told x at code e f d = subst (λ (c : FaultCode). FirstMisfit items (record { at = at; code = c })) (sym f) (subst (λ (z : Span). FirstMisfit items (record { at = z; code = x.code })) (sym e) d)

  pub refused_fault : (e : Halt) (r : Refusal) → HaltsAs e (the_file tokens) → IsRefusalOf tokens e r → ClassFault (Err r) tokens
  refused_fault e refusals.NoMemory h is = tt
  refused_fault (halts.Stopped stops.Memory) (refusals.Fault f) h is = absurd is
  refused_fault (halts.Stopped (stops.Syntax at)) (refusals.Fault f) h is = (is.0, inr (inr (moved f.at (spot tokens at) f.code _ is.1 is.2 (stuck_first at h))))
  refused_fault (halts.Stopped (stops.Deep at)) (refusals.Fault f) h is =
      (is.0, inl (is.2, subst (λ (z : Span). IsDeepChecked z (the_file tokens)) (sym is.1) h, too_deep f.at (subst (λ (z : Span). IsDeepChecked z (the_file tokens)) (sym is.1) h)))
  refused_fault (halts.Unfit x) (refusals.Fault f) h is = (is.0, inr (inl (told x f.at f.code is.1 is.2 (file.file_misfit items steps most_nodes p marks tokens.class x h))))

  pub behind_fault : (a : ClassTree) (at : ℕ) (r : Refusal) → the_file tokens ≡ Reads (Found a at) → at < length items
      → (r ≡ refusals.NoMemory) ⊎ (r ≡ refusals.Fault (record { class = tokens.class; at = spot tokens at; code = codes.Syntax })) → ClassFault (Err r) tokens
  behind_fault a at r e low (inl is) = subst (λ (r : Refusal). ClassFault (Err r) tokens) (sym is) tt
  behind_fault a at r e low (inr is) = subst (λ (r : Refusal). ClassFault (Err r) tokens) (sym is) (refl, inr (inr (behind a at e low)))

  pub told_at : (at : ℕ) (r : Refusal) (place : Span) → place ≡ spot tokens at → (r ≡ refusals.NoMemory) ⊎ (r ≡ refusals.Fault (record { class = tokens.class; at = place; code = codes.Syntax }))
      → (r ≡ refusals.NoMemory) ⊎ (r ≡ refusals.Fault (record { class = tokens.class; at = spot tokens at; code = codes.Syntax }))
  told_at at r place e h = subst (λ (z : Span). (r ≡ refusals.NoMemory) ⊎ (r ≡ refusals.Fault (record { class = tokens.class; at = z; code = codes.Syntax }))) e h

  pub behind_only : (a : ClassTree) (at : ℕ) (r : Refusal) → the_file tokens ≡ Reads (Found a at) → at < length items → (b : ClassTree) → IsClass tokens.class items b → GivesClass (Err r) b
  behind_only a at r e low b d = absurd (none_behind a at e low b d)

  -- ---- as the code reads them

  pub same_run : (symbols : List Token) (most : ℕ) → symbols ≡ items → most ≡ length symbols + 1 → checked_file (place_of symbols) most most_nodes tokens.class (text_of symbols) ≡ the_file tokens
  same_run symbols most same is =
      ap (λ (n : ℕ). checked_file (place_of symbols) n most_nodes tokens.class (text_of symbols)) is
      ∙ (ap (λ (ts : List Token). checked_file (place_of ts) (length ts + 1) most_nodes tokens.class (text_of ts)) same
      ∙ ap (λ (n : ℕ). checked_file (place_of items) n most_nodes tokens.class (text_of items)) (let e : length items + 1 ≡ suc (length items) = omega arith in e))
