-- What the octets of a frame spell.
use Rattle.std.specs.Prelude.{◌≡◌, ℕ, ◌^◌, ◌<◌, List, [], ◌∷◌, ◌++◌, length, replicate, flat_map, All}
use Rattle.frame_codec.specs.Bits.{digits, bits_of}
use Rattle.frame_codec.specs.declared.params.SubParams.{SubParams}

-- the fields of a frame
pub record Fields : Type 0 where
  pub larc : List ℕ
  pub sub : List SubParams

-- codes, each in its width
abbrev pub spelled : List ℕ → List ℕ → List ℕ
spelled (w ∷ ws) (n ∷ ns) = digits w n ++ spelled ws ns
spelled ws ns = []

-- there is a code for each width, and it fits
abbrev pub FitAll : List ℕ → List ℕ → Type 0
FitAll [] [] = Unit {0}
FitAll (w ∷ ws) (n ∷ ns) = (n < 2 ^ w) × FitAll ws ns
FitAll [] (n ∷ ns) = ⊥
FitAll (w ∷ ws) [] = ⊥

-- of the log area ratios
abbrev pub lar_widths : List ℕ
lar_widths = 6 ∷ 6 ∷ 5 ∷ 5 ∷ 4 ∷ 4 ∷ 3 ∷ 3 ∷ []

-- of the lag, its gain, the grid, the level and the pulses
abbrev pub sub_widths : List ℕ
sub_widths = 7 ∷ 2 ∷ 2 ∷ 6 ∷ replicate 13 3

abbrev pub sub_codes : SubParams → List ℕ
sub_codes s = s.nc ∷ s.bc ∷ s.mc ∷ s.xmaxc ∷ s.xmc

abbrev pub sub_bits : SubParams → List ℕ
sub_bits s = spelled sub_widths (sub_codes s)

-- the signature, and then the fields in order
abbrev pub frame_bits : Fields → List ℕ
frame_bits p = digits 4 13 ++ (spelled lar_widths p.larc ++ flat_map sub_bits p.sub)

-- the octets spell the fields
abbrev pub Spells : List ℕ → Fields → Type 0
Spells octets p = bits_of octets ≡ frame_bits p

-- each field is within its width
abbrev pub SubFits : SubParams → Type 0
SubFits s = FitAll sub_widths (sub_codes s)

pub record IsWithinWidths (p : Fields) : Type 0 where
  pub larc : FitAll lar_widths p.larc
  pub count : length p.sub ≡ 4
  pub sub : All SubFits p.sub
