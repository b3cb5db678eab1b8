use Rattle.std.proofs.Common.{◌<◌, ◌∷◌, [], List, ℕ, length, take, map, string_bytes, sym, ap, ◌∙◌, subst, arith}
use Rattle.tcf_app.specs.Words.{image_in, images_in, files_in}
use Rattle.tcf_app.specs.Heard.{HearsPart, ReadsInOrder}
use Rattle.tcf_app.proofs.Imaging.{err_by, part_step, named_step, far_step, told_step}
use Rattle.tcf_app.proofs.Noting.{files_at, files_next, files_count, images_next, images_count, reads_one, reads_part}
use Rattle.tcf_app.proofs.reading.read_images.Goals as goal

pub returns-in_err-image-clause-part : goal.returns-in_err-image-clause-part
returns-in_err-image-clause-part g c =
    let words = c.args.words.now in
    let names = files_in (images_in (map string_bytes words)) in
    let below : c.loop-word.word-index < length names = omega (arith, files_count string_bytes words) in
    err_by (HearsPart names (g.F.Files.seen c.args.files.now) (g.F.Files.seen c.read_image.new.files)) _ c.from_residual.result c.from_residual.ensures.1 (λ u same.
    subst (HearsPart names (g.F.Files.seen c.args.files.now) (g.F.Files.seen c.read_image.new.files)) (sym same)
    (part_step names c.loop-word.word-index c.len.result (g.F.Files.seen c.args.files.now) (g.F.Files.seen c.loop-word.files) (g.F.Files.seen c.read_image.new.files) c.loop-word.images.items _ _ _ c.in_err-image.field-0.0 c.loop-word.invariant.far
    (files_at string_bytes words c.loop-word.word-index c.word-item.result c.loop-word-test.true c.word-item.is) below
    (ap (λ (t : List ℕ). (image_in t).file) c.as_str.ensures.value) (c.len.ensures ∙ c.loop-word.images.ok.0) c.loop-word.invariant.kept c.loop-word.invariant.calm
    c.in_err-image.ensures.part c.in_err-image.ensures.counts
    (files_next string_bytes words c.loop-word.word-index c.word-item.result c.loop-word-test.true c.word-item.is) c.loop-word.invariant.told
    c.in_err-image.ensures.failed_noted))

pub returns-in_err-image-clause-reads : goal.returns-in_err-image-clause-reads
returns-in_err-image-clause-reads g c =
    let words = c.args.words.now in
    let names = files_in (images_in (map string_bytes words)) in
    reads_part names (take c.loop-word.word-index names) (image_in (string_bytes c.word-item.result)).file _ _ (g.F.Files.seen c.loop-word.files) _
    (files_at string_bytes words c.loop-word.word-index c.word-item.result c.loop-word-test.true c.word-item.is) c.loop-word.invariant.told
    (subst (λ (name : List ℕ). ReadsInOrder (name ∷ []) (g.F.Files.seen c.loop-word.files) (g.F.Files.seen c.read_image.new.files)) (ap (λ (t : List ℕ). (image_in t).file) c.as_str.ensures.value)
    c.in_err-image.ensures.part_noted)

pub returns-in_err-push-clause-reads : goal.returns-in_err-push-clause-reads
returns-in_err-push-clause-reads g c =
    let words = c.args.words.now in
    let names = files_in (images_in (map string_bytes words)) in
    reads_part names (take c.loop-word.word-index names) (image_in (string_bytes c.word-item.result)).file _ _ (g.F.Files.seen c.loop-word.files) _
    (files_at string_bytes words c.loop-word.word-index c.word-item.result c.loop-word-test.true c.word-item.is) c.loop-word.invariant.told
    (subst (λ (name : List ℕ). ReadsInOrder (name ∷ []) (g.F.Files.seen c.loop-word.files) (g.F.Files.seen c.read_image.new.files)) (ap (λ (t : List ℕ). (image_in t).file) c.as_str.ensures.value)
    (reads_one _ _ _ c.in_ok-image.ensures.noted))

pub loop-word-preserved : goal.loop-word-preserved
loop-word-preserved g c =
    let words = c.args.words.now in
    let all = images_in (map string_bytes words) in
    let below : c.loop-word.word-index < length all = omega (arith, images_count string_bytes words) in
    let named = ap (λ (t : List ℕ). (image_in t).file) c.as_str.ensures.value in
    let next = files_next string_bytes words c.loop-word.word-index c.word-item.result c.loop-word-test.true c.word-item.is in
    record {
      named = named_step all c.loop-word.word-index c.loop-word.images.items c.push.new.self.items c.in_ok-image.image (image_in (string_bytes c.word-item.result))
          c.loop-word.invariant.named c.loop-word.invariant.far.size below
          (images_next string_bytes words c.loop-word.word-index c.word-item.result c.loop-word-test.true c.word-item.is)
          (c.in_ok-image.ensures.named ∙ ap (λ (t : List ℕ). (image_in t).name) c.as_str.ensures.value) c.in_ok-push.ensures.items;
      far = far_step (files_in all) c.loop-word.word-index _ _ c.loop-word.images.items c.push.new.self.items c.in_ok-image.image _ _
          c.loop-word.invariant.far next named c.loop-word.invariant.kept c.in_ok-image.ensures.whole c.in_ok-push.ensures.items;
      kept = c.in_ok-image.ensures.kept ∙ c.loop-word.invariant.kept;
      calm = c.in_ok-image.ensures.calm ∙ c.loop-word.invariant.calm;
      told = told_step (files_in all) c.loop-word.word-index (g.F.Files.seen c.args.files.now) (g.F.Files.seen c.loop-word.files) (g.F.Files.seen c.read_image.new.files) _ _ next named c.loop-word.invariant.told c.in_ok-image.ensures.noted;
    }
