-- Parts of a piece, one behind the other.
use Rattle.std.proofs.Common.{◌≡◌, ◌≤◌, ◌<◌, ℕ, ◌+◌, List, [], length, take, drop, ◌-◌, Option, ap, ◌∙◌, arith}
use Rattle.std.proofs.lemmas.List.{take-append-drop}
use Rattle.std.proofs.lemmas.Grind.{common_steps}
use Rattle.std.proofs.Math.Seq.{take-add}
use Rattle.bj_io.specs.Told.{behind, behind-append, behind-nil}
use Rattle.bj_stream.specs.Sending.{IsSent}
use Rattle.bj_stream.specs.declared.sending.Sent.{Sent}
use Rattle.bj_stream.specs.declared.sending.Sent.TheVariants.{All}

pub held_more : (old mid new : Option (List ℕ)) (bytes : List ℕ) (at n : ℕ) → n ≤ length bytes - at → mid ≡ behind old (take at bytes) → new ≡ behind mid (take n (take (length bytes - at) (drop at bytes))) → new ≡ behind old (take (at + n) bytes)
held_more old mid new bytes at n fits first later =
    let all : take (length bytes - at) (drop at bytes) ≡ drop at bytes = grind (arith, common_steps) in
    let piece : take n (take (length bytes - at) (drop at bytes)) ≡ take n (drop at bytes) = ap (λ xs. take n xs) all in
    rw (take-add at n bytes, behind-append old (take at bytes) (take n (drop at bytes)), ← first, ← piece) later

-- what was sent up to a place, where the rest was refused
pub sent_to : (answer : Sent) (old mid new : Option (List ℕ)) (bytes : List ℕ) (at : ℕ) → at < length bytes → (answer ≡ All → ⊥) → mid ≡ behind old (take at bytes) → new ≡ behind mid [] → IsSent answer bytes old new
sent_to answer old mid new bytes at lt not_all first later = record {
  sent = take at bytes;
  unsent = drop at bytes;
  parts = take-append-drop at bytes;
  held = later ∙ (behind-nil mid ∙ first);
  all = λ is. absurd (not_all is);
  none = λ is. absurd (let e : length bytes ≡ 0 = ap length is in omega arith);
}
