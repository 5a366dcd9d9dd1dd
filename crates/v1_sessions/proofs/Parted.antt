-- Messages that are told one after the other.
use Rattle.std.proofs.Common.{◌≡◌, ℕ, true, List, [], ◌++◌, drop, map, Option, sym, ap, ◌∙◌, append_assoc}
use Rattle.pool_base.specs.Lists.{Begins}
use Rattle.pool_io.specs.Outside.{AddsBytes}
use Rattle.pool_io.proofs.Puts.{Adds-more}
use Rattle.v2_sessions.proofs.Parts.{drop_next}
use Rattle.session_steps.specs.Steps.{bytes_of_frames}
use Rattle.v1_translate.specs.Heard.{Told, Message}
use Rattle.v1_translate.specs.Messages.{message_reaction}
use Rattle.v1_translate.specs.State.{Terms, V1State}
use Rattle.v1_sessions.specs.States.{lines_after, lines_said, v1_after}
use Rattle.v1_sessions.proofs.Lines.{with_lines_is}
use Rattle.v1_sessions.specs.Parts.{IsToldPart}

-- what is still said
abbrev pub said_from : Terms → V1State → List Told → List ℕ
said_from terms v1 told = bytes_of_frames (lines_after terms v1 (map Message told))

module _ (terms : Terms) (told : List Told) (whole : List ℕ) (old new : V1State) (number next : ℕ) (before now : Option (List ℕ)) (cleared lines : List ℕ)
    (put : (front : List ℕ) × (front ++ said_from terms old (drop number told) ≡ whole) × AddsBytes before now front)
    (none : cleared ≡ []) (part : IsToldPart true terms told number next old new cleared lines) where
  said_is : lines ≡ lines_said (message_reaction terms old part.0).says
  said_is = part.4.lines ∙ with_lines_is cleared (message_reaction terms old part.0).says ∙ ap (λ l. l ++ lines_said (message_reaction terms old part.0).says) none

  rest_is : said_from terms old (drop number told) ≡ lines ++ said_from terms new part.1
  rest_is =
      ap (said_from terms old) part.2 ∙ ap (λ l. l ++ said_from terms (message_reaction terms old part.0).after part.1) (sym said_is)
      ∙ ap (λ v. lines ++ said_from terms v part.1) (sym part.4.state)

  whole_is : put.0 ++ (lines ++ said_from terms new part.1) ≡ whole
  whole_is = ap (λ l. put.0 ++ l) (sym rest_is) ∙ put.1

  next_is : drop next told ≡ part.1
  next_is = ap (λ n. drop n told) part.3 ∙ drop_next told number part.0 part.1 part.2

  pub told_more : (after : Option (List ℕ)) → AddsBytes now after lines
      → (front : List ℕ) × (front ++ said_from terms new (drop next told) ≡ whole) × AddsBytes before after front
  told_more after added = (
    put.0 ++ lines,
    ap (λ t. (put.0 ++ lines) ++ said_from terms new t) next_is ∙ append_assoc put.0 lines (said_from terms new part.1) ∙ whole_is,
    Adds-more before now after put.0 lines put.2 added,
  )

  pub told_front : (bytes : List ℕ) (after : Option (List ℕ)) → Begins bytes lines → AddsBytes now after bytes
      → (front : List ℕ) × Begins front whole × AddsBytes before after front
  told_front bytes after begins added = (
    put.0 ++ bytes,
    (
      begins.0 ++ said_from terms new part.1,
      append_assoc put.0 bytes (begins.0 ++ said_from terms new part.1)
          ∙ ap (λ l. put.0 ++ l) (sym (append_assoc bytes begins.0 (said_from terms new part.1)) ∙ ap (λ l. l ++ said_from terms new part.1) begins.1) ∙ whole_is,
    ),
    Adds-more before now after put.0 bytes put.2 added,
  )

  -- what the session knows in the end
  pub after_more : (last : V1State) → v1_after terms old (map Message (drop number told)) ≡ last → v1_after terms new (map Message (drop next told)) ≡ last
  after_more last is =
      ap (λ t. v1_after terms new (map Message t)) next_is ∙ ap (λ v. v1_after terms v (map Message part.1)) part.4.state
      ∙ sym (ap (λ t. v1_after terms old (map Message t)) part.2) ∙ is
