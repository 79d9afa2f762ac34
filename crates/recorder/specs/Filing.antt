-- A filer's journal.
use Rattle.std.specs.Prelude.{◌≡◌, ℕ, ◌<◌, ◌^◌, List, [], ◌∷◌, ◌++◌, take, slice_index, Bool, true, false, ◌&&◌, ◌||◌, ◌==◌, nat_lt, nat_le, Option, Some, None, if◌then◌else◌}
use Rattle.byteorder.specs.Endian.{big_bytes, big_number}
use Rattle.frame_codec.specs.Octets.{IsFrame}
use Rattle.playout.specs.declared.reply.FileReply.{FileReply}
use Rattle.playout.specs.declared.reply.FileReply.TheVariants.{Accepted, Duplicate, Late, Beyond}
use Rattle.recorder.specs.declared.events.FilerEvent.{FilerEvent}
use Rattle.recorder.specs.declared.filer_head.FilerHead.{FilerHead}
use Rattle.recorder.specs.declared.events.FilerEvent.TheVariants.{Source, Base, File, Refused, Rtcp, Stranger, Empty}
use Rattle.recorder.specs.declared.fault.RecordFault.{RecordFault}
use Rattle.recorder.specs.Fields.{judged, judged_behind}
use Rattle.recorder.specs.Files.{is_signed, answer_by, fault_by}
use Rattle.recorder.specs.Heads.{Heading, IsHeading, head_fault, head_text, filer_magic}

-- the thirteen octets of a filer's head
abbrev pub filer_head_text : Heading → ℕ → List ℕ
filer_head_text h caller = head_text filer_magic h ++ caller ∷ []

-- a filer's head is in its ranges
pub record IsFilerHead (h : FilerHead) : Type 0 where
  pub head : IsHeading h.head
  pub caller : h.caller < h.head.filers

-- the first fault is that of the first part, or where that has none that of the rest
abbrev pub earlier : Option RecordFault → Option RecordFault → Option RecordFault
earlier (Some f) rest = Some f
earlier None rest = rest

-- the first fault of a filer's head that has these octets, thirteen at most
abbrev pub filer_head_fault : List ℕ → Option RecordFault
filer_head_fault octets =
    earlier (head_fault filer_magic (take 12 octets))
    (judged octets 0 12 1 (λ o. nat_lt (slice_index o 0) (slice_index octets 8)) None)

abbrev pub reply_kind : FileReply → ℕ
reply_kind Accepted = 34
reply_kind Duplicate = 35
reply_kind (Late ahead) = 36
reply_kind (Beyond ahead) = 37

-- the octets of the number that a reply tells
abbrev pub reply_text : FileReply → List ℕ
reply_text Accepted = []
reply_text Duplicate = []
reply_text (Late ahead) = big_bytes 8 ahead
reply_text (Beyond ahead) = big_bytes 8 ahead

-- the octets of an event: its kind, and its fields
abbrev pub filer_event_text : FilerEvent → List ℕ
filer_event_text (Source asked) = 32 ∷ (big_bytes 4 asked.said ++ big_bytes 4 asked.held)
filer_event_text (Base asked) = 33 ∷ (big_bytes 4 asked.said ++ big_bytes 4 asked.held)
filer_event_text (File number frame reply) = reply_kind reply ∷ (big_bytes 8 number ++ (frame ++ reply_text reply))
filer_event_text (Refused code detail) = 38 ∷ code ∷ big_bytes 2 detail
filer_event_text Rtcp = 39 ∷ []
filer_event_text (Stranger ssrc held) = 40 ∷ (big_bytes 4 ssrc ++ big_bytes 4 held)
filer_event_text Empty = 41 ∷ []

-- the most octets of an event: a number, a frame and the number that a reply tells, after the kind
abbrev pub longest_filed : ℕ
longest_filed = 50

-- ---- ranges

-- the code of a refusal: of an RTP packet 1 to 10, of RTCP 17 to 22
abbrev pub is_code : ℕ → Bool
is_code code = (nat_le 1 code && nat_le code 10) || (nat_le 17 code && nat_le code 22)

-- refusals that tell a payload type, a frame, or a place
abbrev pub has_detail : ℕ → Bool
has_detail code = code == 7 || code == 10 || code == 18 || code == 19 || code == 21 || code == 22

-- the number that a reply tells is below 2 ^ 48, above the frame's in Late and below it in Beyond
abbrev pub ReplyTells : ℕ → FileReply → Type 0
ReplyTells number Accepted = Unit {0}
ReplyTells number Duplicate = Unit {0}
ReplyTells number (Late ahead) = (number < ahead) × (ahead < 2 ^ 48)
ReplyTells number (Beyond ahead) = (ahead < number) × (ahead < 2 ^ 48)

pub record FiledFits (number : ℕ) (frame : List ℕ) (reply : FileReply) : Type 0 where
  pub in_number : number < 2 ^ 47
  pub in_frame : IsFrame frame
  pub in_reply : ReplyTells number reply

pub record RefusedFits (code detail : ℕ) : Type 0 where
  pub in_code : is_code code ≡ true
  pub in_detail : detail < 2 ^ 16
  pub without : has_detail code ≡ false → detail ≡ 0

-- the fields of an event are in their ranges
abbrev pub FilerFits : FilerEvent → Type 0
FilerFits (Source asked) = (asked.said < 2 ^ 32) × (asked.held < 2 ^ 32)
FilerFits (Base asked) = (asked.said < 2 ^ 32) × (asked.held < 2 ^ 32)
FilerFits (File number frame reply) = FiledFits number frame reply
FilerFits (Refused code detail) = RefusedFits code detail
FilerFits Rtcp = Unit {0}
FilerFits (Stranger ssrc held) = (ssrc < 2 ^ 32) × (held < 2 ^ 32)
FilerFits Empty = Unit {0}

-- the octets of what is read next: an event, or none at the end mark
abbrev pub filer_answer_text : Option FilerEvent → List ℕ
filer_answer_text = answer_by filer_event_text

-- ---- faults

-- how many octets follow a kind, where it is one of the file's
abbrev pub filer_width : ℕ → Option ℕ
filer_width kind =
    if kind == 32 || kind == 33 || kind == 40 then Some 8
    else if kind == 34 || kind == 35 then Some 41
    else if kind == 36 || kind == 37 then Some 49
    else if kind == 38 then Some 3
    else if kind == 39 || kind == 41 then Some 0
    else None

-- two numbers, each of any value
abbrev pub pair_fault : ℕ → List ℕ → Option RecordFault
pair_fault from fields = judged fields from 0 8 (λ o. true) None

-- a number and its frame, and then the rest decides
abbrev pub filed_fault : ℕ → List ℕ → Option RecordFault → Option RecordFault
filed_fault from fields rest = judged fields from 0 8 (λ o. nat_lt (big_number 8 o) (2 ^ 47)) (judged fields from 8 33 is_signed rest)

-- the number that a Late tells is above the frame's and below 2 ^ 48; that of a Beyond is below the frame's
abbrev pub ahead_passes : Bool → ℕ → ℕ → Bool
ahead_passes late number ahead = if late then nat_lt number ahead && nat_lt ahead (2 ^ 48) else nat_lt ahead number

-- that number after the frame
abbrev pub ahead_fault : Bool → ℕ → List ℕ → Option RecordFault
ahead_fault late from fields = judged fields from 41 8 (λ o. ahead_passes late (big_number 8 fields) (big_number 8 o)) None

-- a code, and its detail
abbrev pub refused_fault : ℕ → List ℕ → Option RecordFault
refused_fault from fields =
    judged fields from 0 1 (λ o. is_code (slice_index o 0))
    (judged fields from 1 2 (λ o. has_detail (slice_index fields 0) || big_number 2 o == 0) None)

-- the fault of what a reply tells, after a number and its frame
abbrev pub reply_fault : ℕ → ℕ → List ℕ → Option RecordFault
reply_fault kind from fields =
    if kind == 36 then ahead_fault true from fields
    else if kind == 37 then ahead_fault false from fields
    else None

-- the first fault of the fields after one of the file's kinds, of which the first octet stands at place from
abbrev pub filer_field_fault : ℕ → ℕ → List ℕ → Option RecordFault
filer_field_fault kind from fields =
    if kind == 32 || kind == 33 || kind == 40 then pair_fault from fields
    else if kind == 38 then refused_fault from fields
    else if kind == 39 || kind == 41 then None
    else filed_fault from fields (reply_fault kind from fields)

-- the fault that stands at place `at`, after this many events, where these octets are left
abbrev pub filer_fault_at : ℕ → ℕ → List ℕ → Option RecordFault
filer_fault_at = fault_by (λ kind. judged_behind (filer_width kind) (filer_field_fault kind))
