use Rattle.std.proofs.Common.{length, Ok, Err, sym, subst}
use Rattle.device.specs.Answer.{question}
use Rattle.device.specs.Run.{Ran}
use Rattle.device.proofs.Runs.{answered-is, answered-err}
use Rattle.layers.specs.Cache.{cache_layer}
use Rattle.layers.proofs.Caching.{ran-hit, ran-miss}
use Rattle.cache.specs.Layer.{below_of, table}
use Rattle.cache.proofs.cache.Cache.answer.Goals as goal

pub returns-in-Some-clause-run : goal.returns-in-Some-clause-run
returns-in-Some-clause-run g c =
    let d = c.args.self.now in
    rw c.copy_from_slice.ensures.after
    (ran-hit g.D.Device.meaning g.D.Device.moves (table d) (question c.args.area c.args.block c.args.buf.now) (below_of d) c.in-Some.bytes.now c.in-Some.ensures.found)

pub returns-in_err-ask-clause-run : goal.returns-in_err-ask-clause-run
returns-in_err-ask-clause-run g c =
    let d = c.args.self.now in
    let refusal = c.in_err-ask.field-0.0 in
    rw (answered-err c.from_residual.result refusal c.ask.new.buf c.from_residual.ensures)
    (ran-miss g.D.Device.meaning g.D.Device.moves (table d) (question c.args.area c.args.block c.args.buf.now) (below_of d) c.in_default.ensures.found c.ask.new.self c.ask.ensures.moves (Err refusal)
    (answered-is (length c.args.buf.now) _ (Err refusal) c.ask.new.buf c.in_err-ask.ensures.answer c.ask.ensures.bytes))

pub returns-clause-run : goal.returns-clause-run
returns-clause-run g c =
    let d = c.args.self.now in
    let q = question c.args.area c.args.block c.args.buf.now in
    subst (λ kept. Ran g.D.Device.meaning g.D.Device.moves (below_of d) (cache_layer (table d) q) (Ok c.ask.new.buf, kept) c.ask.new.self) (sym c.keep.ensures)
    (ran-miss g.D.Device.meaning g.D.Device.moves (table d) q (below_of d) c.in_default.ensures.found c.ask.new.self c.ask.ensures.moves (Ok c.ask.new.buf)
    (answered-is (length c.args.buf.now) _ (Ok tt) c.ask.new.buf c.in_ok-ask.ensures.answer c.ask.ensures.bytes))
