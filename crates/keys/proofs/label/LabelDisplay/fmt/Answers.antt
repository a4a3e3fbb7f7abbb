use Rattle.std.proofs.Common.{◌≡◌, ℕ, ◌+◌, ◌<◌, List, [], ◌++◌, get_or, take, flat_map, false, ◌^◌, ◌-◌, ap, sym, ◌∙◌, rules, arith}
use Rattle.std.specs.Fmt.{digits, padded_integral, format_spec}
use Rattle.std.proofs.Output.{has_written_append, has_written_of_eq}
use Rattle.std.proofs.lemmas.List.{take_more, flat_map_more}
use Rattle.std.proofs.lemmas.Fmt.{hex_byte}
use Rattle.keys.specs.Shown.{byte_text}
use Rattle.keys.proofs.label.LabelDisplay.fmt.Goals as goal

pub loop-b-preserved : goal.loop-b-preserved
loop-b-preserved g c p =
    let bs = c.args.self.now.bytes in
    let i = c.loop-b.b-index in
    let b = get_or bs i 0 in
    let w : List ℕ = padded_integral (format_spec 32 0 4 2 (2 ^ 64 - 1)) false [] (digits 16 false b) in
    let small : b < 256 = let fits = c.loop-b-test.element_fits.fits in omega arith in
    let more : flat_map byte_text (take i bs) ++ w ≡ flat_map byte_text (take (i + 1) bs) =
    ap (λ t. flat_map byte_text (take i bs) ++ t) (hex_byte false b small) ∙ flat_map_more byte_text [] (take i bs) b ∙ ap (flat_map byte_text) (sym (take_more bs i 0 (omega arith))) in
    has_written_of_eq _ _ _ _ _ more (has_written_append _ _ _ _ w _ (c.loop-b.invariant p) (search rules))
