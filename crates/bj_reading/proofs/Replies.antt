-- Each way to read a text gives a reply that is one of the text.
use Rattle.std.proofs.Common.{◌≡◌, ◌⊎◌, ℕ, List, [], if◌then◌else◌, Result, Ok, Err, inl, inr, subst, ◌∙◌}
use Rattle.std.specs.Prelude.{IfOk}
use Rattle.bj_base.specs.declared.span.Span.{Span}
use Rattle.bj_base.specs.declared.fault.Fault.{Fault}
use Rattle.bj_base.specs.declared.fault.FaultCode.TheVariants.{Syntax}
use Rattle.bj_base.specs.declared.fault.Refusal.TheVariants as refusal
use Rattle.bj_token.specs.declared.token.Tokens.{Tokens}
use Rattle.bj_lex.specs.Texts.{IsFirstFault, ReadsAs}
use Rattle.bj_tree.specs.declared.line.LineTree.{LineTree}
use Rattle.bj_line.specs.Line.{IsLine, FaultAt}
use Rattle.bj_reading.specs.declared.text.JavaText.{JavaText}
use Rattle.bj_reading.specs.Reply.{first_place, parsed, is_of_form, not_built, fault_reply, IsParserReply, IsTreeReply, IsReadingReply}

-- the reply of the parser, over the tokens that it was given
pub of_parser : {E : Type 0} (r : Result (List ℕ) E) (form : JavaText) (read made : Tokens) (fault : Fault) → made ≡ parsed form read
    → FaultAt (Err (refusal.Fault fault)) made → IfOk r (λ reply. reply ≡ fault_reply fault.at fault.code) → IfOk r (λ reply. IsParserReply form read reply ⊎ IsTreeReply form read reply)
of_parser (Ok reply) form read made fault same faulty told =
    inl (record { fault = fault; faulty = subst (FaultAt (Err (refusal.Fault fault))) same faulty; told = told })
of_parser (Err e) form read made fault same faulty told = tt

-- the reply to a tree
pub of_tree : {E : Type 0} (r : Result (List ℕ) E) (form : JavaText) (read made : Tokens) (first : Span) (tree : LineTree) → made ≡ parsed form read → first ≡ first_place read
    → IsLine made.items tree → IfOk r (λ reply. reply ≡ (if is_of_form form tree then not_built else fault_reply first Syntax))
    → IfOk r (λ reply. IsParserReply form read reply ⊎ IsTreeReply form read reply)
of_tree (Ok reply) form read made first tree same place line told =
    inr (record {
      tree = tree;
      line = subst (λ (t : Tokens). IsLine t.items tree) same line;
      told = subst (λ (at : Span). reply ≡ (if is_of_form form tree then not_built else fault_reply at Syntax)) place told;
    })
of_tree (Err e) form read made first tree same place line told = tt

-- the reply to a fault within the tokens
pub of_lexical : {E : Type 0} (r : Result (List ℕ) E) (form : JavaText) (bytes class : List ℕ) (fault : Fault) → class ≡ [] → IsFirstFault class bytes (refusal.Fault fault)
    → IfOk r (λ reply. reply ≡ fault_reply fault.at fault.code) → IfOk r (IsReadingReply form bytes)
of_lexical (Ok reply) form bytes class fault empty first told =
    inl (record { fault = fault; first = subst (λ (c : List ℕ). IsFirstFault c bytes (refusal.Fault fault)) empty first; told = told })
of_lexical (Err e) form bytes class fault empty first told = tt

-- the reply to tokens
pub of_tokens : {E : Type 0} (r : Result (List ℕ) E) (form : JavaText) (bytes class : List ℕ) (tokens : Tokens) → class ≡ [] → tokens.class ≡ class → ReadsAs bytes tokens.items tokens.end
    → IfOk r (λ reply. IsParserReply form tokens reply ⊎ IsTreeReply form tokens reply) → IfOk r (IsReadingReply form bytes)
of_tokens (Ok reply) form bytes class tokens empty same read replied = inr (record { tokens = tokens; of_console = same ∙ empty; read = read; replied = replied })
of_tokens (Err e) form bytes class tokens empty same read replied = tt

-- a reply that is a text is another that equals it
pub of_text : {E : Type 0} (r : Result (List ℕ) E) (text same : List ℕ) → text ≡ same → IfOk r (λ reply. reply ≡ text) → IfOk r (λ reply. reply ≡ same)
of_text (Ok reply) text same e is = is ∙ e
of_text (Err fault) text same e is = tt
