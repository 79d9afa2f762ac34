-- What a call of the return stream did.
use Rattle.std.proofs.Common.{◌≡◌, ℕ, List, [], ◌∷◌, ◌++◌, false, Option, subst}
use Rattle.std.specs.Prelude.{ℤ, ◌⊎◌}
use Rattle.frame_codec.specs.Frame.{Fields, Spells}
use Rattle.frame_codec.specs.Octets.{IsFrame}
use Rattle.fr_encoder.specs.Coding.{Encodes}
use Rattle.gate_io.specs.Links.{GoesTo, LinkLog, with_sent}
use Rattle.player.specs.Pieces.{IsPiece}
use Rattle.player.specs.Returning.{Codes, Returns, Stream, gone_on, next_packet}
use Rattle.player.specs.declared.return_stream.ReturnEnd.TheVariants.{Sent, ReplyFault}

-- the packet of the next samples
abbrev pub Packs : Stream → Stream → List ℤ → List ℕ → Type 0
Packs old new samples octets = (frame : List ℕ) × (fields : Fields) × IsFrame frame × Spells frame fields × (octets ≡ next_packet old frame)
    × ((before : List ℤ) (frames : List Fields) → Encodes before frames old.encoder → Encodes (before ++ samples) (frames ++ fields ∷ []) new.encoder)

module _ (old new : Stream) (left left' : Option (List ℕ)) (log log' : Option LinkLog) (samples : List ℤ) (octets : List ℕ)
    (running : old.ended ≡ false) (piece : (taken : List ℕ) × IsPiece left left' taken samples) (packs : Packs old new samples octets) (state : new ≡ gone_on old new.encoder) where
  codes : Codes old new left left' piece.0 packs.0
  codes = record { samples = samples; fields = packs.1; running = running; piece = piece.1; framed = packs.2; spelled = packs.3; coded = packs.5; state = state }

  pub was_sent : GoesTo log log' (λ a b. b ≡ with_sent a octets) → Returns old new left left' log log' Sent
  was_sent sent = (piece.0, packs.0, codes, subst (λ (o : List ℕ). GoesTo log log' (λ a b. b ≡ with_sent a o)) packs.4 sent)

  pub was_lost : GoesTo log log' (λ a b. (b ≡ a) ⊎ (b ≡ with_sent a octets)) → Returns old new left left' log log' ReplyFault
  was_lost sent = (piece.0, packs.0, codes, subst (λ (o : List ℕ). GoesTo log log' (λ a b. (b ≡ a) ⊎ (b ≡ with_sent a o))) packs.4 sent)
