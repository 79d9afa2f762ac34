-- The lines of the notes.
use Rattle.std.specs.Prelude.{ℕ, ◌==◌, ◌&&◌, List, [], ◌∷◌, ◌++◌, codes, decimal, if◌then◌else◌}
use Rattle.std.specs.List.{flat_map}
use Rattle.playout.specs.declared.reply.FileReply.{FileReply}
use Rattle.playout.specs.declared.reply.FileReply.TheVariants.{Accepted, Duplicate, Late, Beyond}
use Rattle.recorder.specs.declared.fault.RecordFault.{RecordFault}
use Rattle.recorder.specs.declared.fault.RecordFault.TheVariants.{Magic, Kind, Cut, Field, TooLong}
use Rattle.recorder.specs.declared.tally.Tally.{Tally}
use Rattle.recorder.specs.declared.tally.PlayTally.{PlayTally}
use Rattle.rtp_codec.specs.declared.fault.RtpFault.{RtpFault}
use Rattle.rtp_codec.specs.declared.fault.RtpFault.TheVariants as rtp
use Rattle.rtcp_stats.specs.declared.fault.RtcpFault.{RtcpFault}
use Rattle.rtcp_stats.specs.declared.fault.RtcpFault.TheVariants as rtcp
use Rattle.filer.specs.declared.outcome.OutcomeEnd.{OutcomeEnd}
use Rattle.filer.specs.declared.outcome.OutcomeEnd.TheVariants as end

abbrev pub newline : List ℕ
newline = 10 ∷ []

-- a name and its number
abbrev pub counted : List ℕ → ℕ → List ℕ
counted name n = name ++ decimal n

abbrev pub usage_line : List ℕ
usage_line = codes "usage" ++ newline

-- a frame's line, where it was not accepted
abbrev pub reply_line : ℕ → ℕ → FileReply → List ℕ
reply_line caller number Accepted = []
reply_line caller number Duplicate = decimal caller ++ (counted (codes " duplicate ") number ++ newline)
reply_line caller number (Late ahead) = decimal caller ++ (counted (codes " late ") number ++ (counted (codes " ") ahead ++ newline))
reply_line caller number (Beyond ahead) = decimal caller ++ (counted (codes " beyond ") number ++ (counted (codes " ") ahead ++ newline))

-- the words of a refused packet, with the payload type or the frame, counted from 0, that it was refused for
abbrev pub rtp_words : RtpFault → List ℕ
rtp_words rtp.Oversize = codes " refused oversize"
rtp_words rtp.Short = codes " refused short"
rtp_words rtp.Version = codes " refused version"
rtp_words rtp.CsrcShort = codes " refused csrc"
rtp_words rtp.ExtensionShort = codes " refused extension"
rtp_words rtp.Padding = codes " refused padding"
rtp_words (rtp.OtherPayload pt) = counted (codes " refused payload ") pt
rtp_words rtp.Length = codes " refused length"
rtp_words rtp.TooMany = codes " refused many"
rtp_words (rtp.Signature i) = counted (codes " refused signature ") i

-- the words of a refused RTCP compound, with the octet where the packet begins that it was refused for
abbrev pub rtcp_words : RtcpFault → List ℕ
rtcp_words rtcp.Oversize = codes " refused rtcp oversize"
rtcp_words (rtcp.Cut at) = counted (codes " refused rtcp cut ") at
rtcp_words (rtcp.Version at) = counted (codes " refused rtcp version ") at
rtcp_words rtcp.First = codes " refused rtcp first"
rtcp_words (rtcp.Padding at) = counted (codes " refused rtcp padding ") at
rtcp_words (rtcp.Body at) = counted (codes " refused rtcp body ") at

-- a datagram's own line: it was refused, or is of another source than the held one
abbrev pub own_line : ℕ → OutcomeEnd → List ℕ
own_line who end.Rtcp = []
own_line who (end.RtcpRefused f) = decimal who ++ (rtcp_words f ++ newline)
own_line who (end.RtpRefused f) = decimal who ++ (rtp_words f ++ newline)
own_line who end.Empty = []
own_line who (end.Stranger ssrc held) = decimal who ++ (counted (codes " stranger ") ssrc ++ (counted (codes " ") held ++ newline))
own_line who (end.Filed n replies) = []

-- how many ticks there were, and what they and the other beats played
abbrev pub ticks_line : PlayTally → List ℕ
ticks_line t = counted (codes "ticks ") t.ticks ++ (counted (codes " frames ") t.frames ++ (counted (codes " erasures ") t.erasures ++ (counted (codes " idle ") t.idle ++ newline)))

-- how many beats let a number pass, and how many numbers were left out, where there are any
abbrev pub held_line : PlayTally → List ℕ
held_line t = if (t.held == 0) && (t.retired == 0) then [] else counted (codes "held ") t.held ++ (counted (codes " retired ") t.retired ++ newline)

-- what the beats resulted in
abbrev pub play_lines : PlayTally → List ℕ
play_lines t = ticks_line t ++ held_line t

-- how the frames were answered
abbrev pub frame_words : Tally → List ℕ
frame_words t = counted (codes " accepted ") t.accepted ++ (counted (codes " duplicate ") t.duplicate ++ (counted (codes " late ") t.late ++ counted (codes " beyond ") t.beyond))

-- the datagrams that gave no frame
abbrev pub other_words : Tally → List ℕ
other_words t = counted (codes " refused ") t.refused ++ (counted (codes " stranger ") t.stranger ++ (counted (codes " rtcp ") t.rtcp ++ counted (codes " empty ") t.empty))

-- what the datagrams and the frames resulted in, of whom it is said
abbrev pub tally_line : List ℕ → Tally → List ℕ
tally_line whose t = whose ++ (counted (codes " datagrams ") t.datagrams ++ (frame_words t ++ (other_words t ++ newline)))

-- the summary of a run by its tallies
abbrev pub tallies_text : PlayTally → Tally → List ℕ
tallies_text plays tally = play_lines plays ++ tally_line (codes "all") tally

-- the words of a fault, with its place
abbrev pub fault_words : RecordFault → List ℕ
fault_words Magic = codes " magic"
fault_words (Kind at) = counted (codes " kind ") at
fault_words (Cut at) = counted (codes " cut ") at
fault_words (Field at) = counted (codes " field ") at
fault_words TooLong = codes " long"

-- the line of the first fault of an input, by the input's place among the words
abbrev pub fault_line : ℕ → RecordFault → List ℕ
fault_line input fault = counted (codes "input ") input ++ (fault_words fault ++ newline)

-- how many frames there were
abbrev pub frames_line : ℕ → List ℕ
frames_line n = counted (codes "frames ") n ++ newline

-- how many calls a legal history has
abbrev pub legal_line : ℕ → List ℕ
legal_line n = counted (codes "legal ") n ++ newline

-- the caller and the place where no legal history goes on
abbrev pub illegal_line : ℕ → ℕ → List ℕ
illegal_line caller place = counted (codes "illegal ") caller ++ (counted (codes " ") place ++ newline)

-- who makes a call, where there are this many filers: a filer by its number, or the player
abbrev pub caller_line : ℕ → ℕ → List ℕ
caller_line filers who = (if who == filers then codes "p" else decimal who) ++ newline

-- the callers of a history, each on its line
abbrev pub order_lines : ℕ → List ℕ → List ℕ
order_lines filers order = flat_map (caller_line filers) order
