-- What is written of tokens is read as these.
use Rattle.std.proofs.Common.{List, [], ◌∷◌, refl, ap, ◌∙◌, None}
use Rattle.bj_text.specs.Utf16.{bytes_of}
use Rattle.bj_lex.specs.Places.{span_of}
use Rattle.bj_lex.specs.Texts.{text_of, read}
use Rattle.bj_lex.specs.Grammar.{Spelled, spelled}
use Rattle.bj_lex.proofs.Bytes.{good_bytes}
use Rattle.bj_lex.proofs.Complete.{complete}
use Rattle.bj_writer.specs.Pieces.{Piece, tokens_of, written}
use Rattle.bj_writer.specs.Tokens.{IsToken, AreTokens, ReadAs}
use Rattle.bj_writer.proofs.Derived.{written_lexes}
use Rattle.bj_writer.proofs.Found.{read_of, text_lexes, token_marks}
use Rattle.bj_writer.proofs.Whole.{IsWhole, text_whole, bytes_utf8, bytes_text}
use Rattle.bj_writer.proofs.WholeTokens.{whole_of, AreWhole, written_whole}

token_whole : (t : Spelled) → IsToken t → IsWhole t.1
token_whole t token =
    let r = read_of token.bytes token.tokens token.reads.0 token.reads.1 in
    whole_of t [] (text_of token.bytes) (spelled token.tokens) (text_lexes t token) (text_whole token.bytes r.utf8) token.stands

tokens_whole : (tokens : List Spelled) → AreTokens tokens → AreWhole tokens
tokens_whole [] each = tt
tokens_whole (t ∷ rest) each = (token_whole t each.0, tokens_whole rest each.1)

pub written_reads : (pieces : List Piece) → AreTokens (tokens_of pieces) → ReadAs (written None pieces) (tokens_of pieces)
written_reads pieces each =
    let text = written None pieces in
    let whole = written_whole None pieces (tokens_whole (tokens_of pieces) each) in
    let found = complete text (tokens_of pieces) (written_lexes pieces (token_marks (tokens_of pieces) each)) in
    record {
      lexemes = found.ts;
      end = span_of found.end;
      reads = (found.end, good_bytes (bytes_of text) (bytes_utf8 text whole) ∙ ap read (bytes_text text whole) ∙ found.read_is, refl);
      spelling = found.is;
    }
