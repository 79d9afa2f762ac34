use Rattle.std.proofs.Common.{rules, ◌≡◌, ◌++◌, pos, replicate, length, FitsSigned, w16}
use Rattle.std.proofs.lemmas.Int.{to_z-of_z}
use Rattle.lar_filter.specs.Ratios.{ratios_of}
use Rattle.rpe_ltp.specs.LongTerm.{Remembers}
use Rattle.fr_decoder.specs.Speech.{sub_frames}
use Rattle.lar_filter.specs.Lattice.{StepsTo}
use Rattle.lar_filter.specs.Trace.{Traces}
use Rattle.lar_filter.specs.Parts.{PassesFrame}
use Rattle.fr_decoder.specs.Decoding.{Kept, Carries, Decodes}
use Rattle.fr_decoder.proofs.CarryLaws.{Decodes-more}
use Rattle.fr_decoder.proofs.decoder.Decoder.decode.Goals as goal

pub returns : goal.returns
returns c =
    let emphasis : FitsSigned w16 c.self.inside.emphasis = search rules in
    let last : FitsSigned w16 c.deemphasise-self-inside.result = search rules in
    let kept : Kept = record { long_term = c.self.inside.long_term; ratios = c.self.inside.ratios; filter = c.self.inside.filter; emphasis = c.self.inside.emphasis } in
    let next : Kept = record { long_term = c.fill_residual.new.long_term; ratios = c.decode_lars-ratios.result; filter = c.run_frame.new.self; emphasis = c.deemphasise-self-inside.result } in
    let ratios : c.decode_lars-ratios.result ≡ ratios_of c.args.params.now.larc = rw c.larc.ensures.larc at c.decode_lars-ratios.ensures in
    let size : length c.fill_residual.new.out ≡ 160 = search rules in
    let filtered_size : length c.run_frame.new.samples ≡ 160 = search rules in
    let out_size : length c.deemphasise-self-inside.new.samples ≡ 160 = search rules in
    record {
      goes_on = λ frames samples decodes.
          let old : Decodes frames samples kept = rw (← c.self.view_is) at decodes in
          let carried : Carries frames samples kept = old.carried in
          let long_term : Remembers (sub_frames frames ++ c.args.params.now.sub) (carried.residual ++ c.fill_residual.new.out) c.fill_residual.new.long_term =
          rw c.sub.ensures.sub at (c.fill_residual.ensures.goes_on (sub_frames frames) carried.residual carried.long_term) in
          let passes : PassesFrame StepsTo Traces c.self.inside.ratios (ratios_of c.args.params.now.larc) c.fill_residual.new.out (replicate 8 (pos 0)) carried.inputs
          (carried.filtered ++ c.run_frame.new.samples) c.run_frame.new.self =
          rw ratios at (c.run_frame.ensures.goes_on (replicate 8 (pos 0)) carried.inputs carried.filtered carried.run) in
          simp to_z-of_z (Decodes-more frames c.args.params.now samples kept next carried c.fill_residual.new.out c.run_frame.new.samples c.deemphasise-self-inside.new.samples
          size filtered_size out_size long_term passes ratios (simp to_z-of_z at c.deemphasise-self-inside.ensures.last) (simp to_z-of_z at c.deemphasise-self-inside.ensures.output));
    }
