-- What a line says is in its ranges.
use Rattle.std.proofs.Common.{◌≡◌, ℕ, zero, suc, inl, inr, ◌-◌, ◌^◌, ◌≤◌, ◌&&◌, nat_le, min, cond, Bool, true, false, List, length, Option, Some, None, refl, sym, subst, codes, arith, option_map}
use Rattle.std.specs.Prelude.{◌⊎◌, ◌==◌, option_and_then}
use Rattle.std.specs.Str.{bytes_eq}
use Rattle.std.specs.Str.Parse.{digits_value}
use Rattle.std.proofs.lemmas.Bool.Decides.{nat_tests}
use Rattle.clap.specs.Walk.{Row, first_of}
use Rattle.clap.specs.Simple.{subcommand_of}
use Rattle.command_line.specs.Table.{gate_app}
use Rattle.command_line.specs.Values.{is_number, number_in, number_or, seed_or}
use Rattle.command_line.specs.Lines.{Said, Text, ServeTexts, are_links, command_of, files_line, files_of, inputs_of, is_flagged, is_taken, line_in, most_elastic, line_of, make_of, options_of, serve_line, serve_of, serve_texts, simulate_of, render_of, verify_of, text_of, texts_of, voice_of}
use Rattle.command_line.specs.Ranges.{AreOptions, IsCommand, IsServed, IsWithin}
use Rattle.command_line.specs.declared.line.Command.{Command}
use Rattle.command_line.specs.declared.line.Command.TheVariants.{Simulate, Decode, Encode, Render, Verify, Make}
use Rattle.command_line.specs.declared.line.ServeOptions.{ServeOptions}
use Rattle.command_line.specs.declared.line.Line.TheVariants.{Files, Serve}

-- ---- options

and_then_some : {A B : Type 0} (o : Option A) (f : A → Option B) (y : B) → option_and_then f o ≡ Some y → (x : A) × (o ≡ Some x) × (f x ≡ Some y)
and_then_some None f y e = cc
and_then_some (Some x) f y e = (x, refl, e)

map_some : {A B : Type 0} (o : Option A) (f : A → B) (y : B) → option_map f o ≡ Some y → (x : A) × (o ≡ Some x) × (y ≡ f x)
map_some None f y e = cc
map_some (Some x) f y e = let same : f x ≡ y = cc in (x, refl, sym same)

cond_some : {A : Type 0} (b : Bool) (o : Option A) (y : A) → cond b o None ≡ Some y → (b ≡ true) × (o ≡ Some y)
cond_some true o y e = (refl, e)
cond_some false o y e = cc

either : {A P : Type 0} (b : Bool) (o p : Option A) (y : A) → cond b o p ≡ Some y → (o ≡ Some y → P) → (p ≡ Some y → P) → P
either true o p y e f g = f e
either false o p y e f g = g e

both : (a b : Bool) → (a && b) ≡ true → (a ≡ true) × (b ≡ true)
both true b e = (refl, e)
both false b e = cc

le_is : (m n : ℕ) → nat_le m n ≡ true → m ≤ n
le_is m n e = grind (arith, nat_tests)

-- ---- numbers

in_range : (low high : ℕ) (ds : List ℕ) (n : ℕ) → number_in low high ds ≡ Some n → (low ≤ n) × (n ≤ high)
in_range low high ds n e =
    let d = digits_value 10 ds in
    let found = cond_some (is_number ds && (nat_le low d && nat_le d high)) (Some d) n e in
    let tests = both (is_number ds) (nat_le low d && nat_le d high) found.0 in
    let ends = both (nat_le low d) (nat_le d high) tests.1 in
    let same : d ≡ n = cc in
    (subst (λ (k : ℕ). low ≤ k) same (le_is low d ends.0), subst (λ (k : ℕ). k ≤ high) same (le_is d high ends.1))

or_in_range : (low high default : ℕ) (o : Option (List ℕ)) (n : ℕ) → low ≤ default → default ≤ high → number_or low high default o ≡ Some n → (low ≤ n) × (n ≤ high)
or_in_range low high default None n a b e =
    let same : default ≡ n = cc in
    (subst (λ (k : ℕ). low ≤ k) same a, subst (λ (k : ℕ). k ≤ high) same b)
or_in_range low high default (Some ds) n a b e = in_range low high ds n e

-- ---- the options of serve

abbrev built : ℕ → ℕ → List ℕ → ℕ → ℕ → ℕ → ℕ → ℕ → ℕ → Option ServeOptions
built ring delay seed ticks report ssrc sequence stamp elastic =
    Some (record { ring = ring; delay = delay; seed = seed; ticks = ticks; report = report; ssrc = ssrc; sequence = sequence; stamp = stamp; elastic = elastic })

abbrev after_stamp : ServeTexts → ℕ → ℕ → List ℕ → ℕ → ℕ → ℕ → ℕ → ℕ → Option ServeOptions
after_stamp t ring delay seed ticks report ssrc sequence stamp = option_and_then (built ring delay seed ticks report ssrc sequence stamp) (number_or 0 (most_elastic ring) 0 t.elastic)

abbrev after_sequence : ServeTexts → ℕ → ℕ → List ℕ → ℕ → ℕ → ℕ → ℕ → Option ServeOptions
after_sequence t ring delay seed ticks report ssrc sequence = option_and_then (after_stamp t ring delay seed ticks report ssrc sequence) (number_or 0 4294967295 0 t.stamp)

abbrev after_ssrc : ServeTexts → ℕ → ℕ → List ℕ → ℕ → ℕ → ℕ → Option ServeOptions
after_ssrc t ring delay seed ticks report ssrc = option_and_then (after_sequence t ring delay seed ticks report ssrc) (number_or 0 65535 0 t.sequence)

abbrev after_report : ServeTexts → ℕ → ℕ → List ℕ → ℕ → ℕ → Option ServeOptions
after_report t ring delay seed ticks report = option_and_then (after_ssrc t ring delay seed ticks report) (number_or 0 4294967295 1 t.ssrc)

abbrev after_ticks : ServeTexts → ℕ → ℕ → List ℕ → ℕ → Option ServeOptions
after_ticks t ring delay seed ticks = option_and_then (after_report t ring delay seed ticks) (number_or 1 65535 250 t.report)

abbrev after_seed : ServeTexts → ℕ → ℕ → List ℕ → Option ServeOptions
after_seed t ring delay seed = option_and_then (after_ticks t ring delay seed) (number_or 1 16000000 15000 t.ticks)

abbrev after_delay : ServeTexts → ℕ → ℕ → Option ServeOptions
after_delay t ring delay = option_and_then (after_seed t ring delay) (seed_or t.seed)

abbrev after_ring : ServeTexts → ℕ → Option ServeOptions
after_ring t ring = option_and_then (after_delay t ring) (number_or 0 (2 ^ ring - 1) (min 3 (2 ^ ring - 1)) t.delay)

options_within : (t : ServeTexts) (o : ServeOptions) → options_of t ≡ Some o → AreOptions o
unfolding options_of
options_within t o e =
    let a = and_then_some (number_or 0 10 6 t.ring) (after_ring t) o e in
    let b = and_then_some (number_or 0 (2 ^ a.0 - 1) (min 3 (2 ^ a.0 - 1)) t.delay) (after_delay t a.0) o a.2 in
    let s = and_then_some (seed_or t.seed) (after_seed t a.0 b.0) o b.2 in
    let n = and_then_some (number_or 1 16000000 15000 t.ticks) (after_ticks t a.0 b.0 s.0) o s.2 in
    let r = and_then_some (number_or 1 65535 250 t.report) (after_report t a.0 b.0 s.0 n.0) o n.2 in
    let i = and_then_some (number_or 0 4294967295 1 t.ssrc) (after_ssrc t a.0 b.0 s.0 n.0 r.0) o r.2 in
    let q = and_then_some (number_or 0 65535 0 t.sequence) (after_sequence t a.0 b.0 s.0 n.0 r.0 i.0) o i.2 in
    let p = and_then_some (number_or 0 4294967295 0 t.stamp) (after_stamp t a.0 b.0 s.0 n.0 r.0 i.0 q.0) o q.2 in
    let k = and_then_some (number_or 0 (most_elastic a.0) 0 t.elastic) (built a.0 b.0 s.0 n.0 r.0 i.0 q.0 p.0) o p.2 in
    let last = 2 ^ a.0 - 1 in
    let least : min 3 last ≤ last = omega arith in
    let ring = or_in_range 0 10 6 t.ring a.0 (omega arith) (omega arith) a.1 in
    let delay = or_in_range 0 last (min 3 last) t.delay b.0 (omega arith) least b.1 in
    let ticks = or_in_range 1 16000000 15000 t.ticks n.0 (omega arith) (omega arith) n.1 in
    let report = or_in_range 1 65535 250 t.report r.0 (omega arith) (omega arith) r.1 in
    let elastic = or_in_range 0 (most_elastic a.0) 0 t.elastic k.0 (omega arith) (omega arith) k.1 in
    let options : ServeOptions = record { ring = a.0; delay = b.0; seed = s.0; ticks = n.0; report = r.0; ssrc = i.0; sequence = q.0; stamp = p.0; elastic = k.0 } in
    let fit : AreOptions options = record {
      ring_fits = ring.1;
      delay_fits = delay.1;
      has_ticks = ticks.0;
      ticks_fit = ticks.1;
      has_report = report.0;
      report_fits = report.1;
      elastic_fits = (most_few a.0 k.0 elastic.1).0;
      elastic_slots = (most_few a.0 k.0 elastic.1).1;
    } in
    some_fits options o k.2 fit
  where
    not_none : (ring : ℕ) → (ring == 0) ≡ false → 1 ≤ ring
    not_none zero e = cc
    not_none (suc r) e = omega arith

    few_by : (b : Bool) (ring n : ℕ) → (ring == 0) ≡ b → n ≤ cond b 0 15 → (n ≤ 15) × ((n ≡ 0) ⊎ (1 ≤ ring))
    few_by true ring n is le = (omega (arith, le), inl (omega (arith, le)))
    few_by false ring n is le = (le, inr (not_none ring is))

    most_few : (ring n : ℕ) → n ≤ most_elastic ring → (n ≤ 15) × ((n ≡ 0) ⊎ (1 ≤ ring))
    most_few ring n le = few_by (ring == 0) ring n refl le

    some_fits : (x y : ServeOptions) → ◌≡◌ {A = Option ServeOptions} (Some x) (Some y) → AreOptions x → AreOptions y
    some_fits x y e h = let same : x ≡ y = cc in subst AreOptions same h

-- ---- commands

abbrev Fits : List Row → Command → Type 0
Fits rows c = IsCommand c (length (inputs_of c rows))

made_within : (rows : List Row) (seed count filers : Text) (c : Command) → make_of seed count filers ≡ Some c → Fits rows c
unfolding make_of
made_within rows seed count filers c e =
    let s = and_then_some (number_in 0 (2 ^ 64 - 1) seed) (λ (s : ℕ). option_and_then (λ (n : ℕ). option_and_then (λ (f : ℕ). Some (Make s n f)) (number_in 1 64 filers)) (number_in 1 1000000 count)) c e in
    let n = and_then_some (number_in 1 1000000 count) (λ (n : ℕ). option_and_then (λ (f : ℕ). Some (Make s.0 n f)) (number_in 1 64 filers)) c s.2 in
    let f = and_then_some (number_in 1 64 filers) (λ (f : ℕ). Some (Make s.0 n.0 f)) c n.2 in
    let numbers = in_range 1 1000000 count n.0 n.1 in
    let links = in_range 1 64 filers f.0 f.1 in
    let fit : Fits rows (Make s.0 n.0 f.0) = record { has_count = numbers.0; count_fits = numbers.1; has_filers = links.0; filers_fit = links.1; no_input = refl } in
    subst (Fits rows) (some_is (Make s.0 n.0 f.0) c f.2) fit
  where
    some_is : (x y : Command) → ◌≡◌ {A = Option Command} (Some x) (Some y) → x ≡ y
    some_is x y e = cc

verify_within : (rows : List Row) (c : Command) → verify_of (texts_of (codes "filer") rows) ≡ Some c → Fits rows c
verify_within rows c e =
    let filers = texts_of (codes "filer") rows in
    let found = cond_some (nat_le 1 (length filers)) (Some Verify) c e in
    let some : 1 ≤ length filers = le_is 1 (length filers) found.0 in
    let two : 2 ≤ suc (length filers) = omega arith in
    let same : Verify ≡ c = cc in
    subst (Fits rows) same two

command_within : (name : Text) (rows : List Row) (c : Command) → command_of name rows ≡ Some c → Fits rows c
command_within name rows c e =
    either (bytes_eq name (codes "simulate")) (simulate_of (is_flagged (codes "pcm") rows) (first_of (codes "seed") rows)) _ c e
    (λ x. let m = map_some (seed_or (first_of (codes "seed") rows)) (λ (s : List ℕ). Simulate (voice_of (is_flagged (codes "pcm") rows) s)) c x in subst (Fits rows) (sym m.2) refl)
    (λ e. either (bytes_eq name (codes "decode")) (Some Decode) _ c e (λ x. let same : Decode ≡ c = cc in subst (Fits rows) same refl)
    (λ e. either (bytes_eq name (codes "encode")) (Some Encode) _ c e (λ x. let same : Encode ≡ c = cc in subst (Fits rows) same refl)
    (λ e. either (bytes_eq name (codes "render")) (render_of (first_of (codes "seed") rows)) _ c e
    (λ x. let m = map_some (seed_or (first_of (codes "seed") rows)) (λ (s : List ℕ). Render s) c x in subst (Fits rows) (sym m.2) refl)
    (λ e. either (bytes_eq name (codes "verify")) (verify_of (texts_of (codes "filer") rows)) _ c e (verify_within rows c)
    (λ e. made_within rows _ _ _ c (cond_some (bytes_eq name (codes "make")) (make_of (text_of (codes "seed") rows) (text_of (codes "count") rows) (text_of (codes "filers") rows)) c e).1)))))

-- ---- lines

files_within : (name : Text) (rows : List Row) (l : Said) → files_line name rows ≡ Some l → IsWithin l
files_within name rows l e =
    let m = map_some (command_of name rows) (λ (c : Command). Files (files_of rows c)) l e in
    subst IsWithin (sym m.2) (command_within name rows m.0 m.1)

serve_within : (rows : List Row) (l : Said) → serve_line rows ≡ Some l → IsWithin l
serve_within rows l e =
    let listen = texts_of (codes "listen") rows in
    let found = cond_some (are_links listen) (option_map (λ (o : ServeOptions). Serve (serve_of rows o)) (options_of (serve_texts rows))) l e in
    let links = both (nat_le 1 (length listen)) (nat_le (length listen) 64) found.0 in
    let m = map_some (options_of (serve_texts rows)) (λ (o : ServeOptions). Serve (serve_of rows o)) l found.1 in
    let fit : IsServed (serve_of rows m.0) = record {
      options_fit = options_within (serve_texts rows) m.0 m.1;
      has_links = le_is 1 (length listen) links.0;
      links_fit = le_is (length listen) 64 links.1;
    } in
    subst IsWithin (sym m.2) fit

found_within : (found : Option (Text × List Row)) (l : Said) → line_in found ≡ Some l → IsWithin l
found_within None l e = cc
found_within (Some f) l e = either (bytes_eq f.0 (codes "serve")) (serve_line f.1) (files_line f.0 f.1) l e (serve_within f.1 l) (files_within f.0 f.1 l)

pub line_within : (words : List Text) (l : Said) → line_of words ≡ Some l → IsWithin l
unfolding line_of
line_within words l e = found_within (subcommand_of gate_app words) l (cond_some (is_taken words) (line_in (subcommand_of gate_app words)) l e).1
