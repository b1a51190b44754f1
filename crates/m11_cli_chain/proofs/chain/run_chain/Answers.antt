use Rattle.std.proofs.Common.{map}
use Rattle.m11_cli_chain.proofs.Joined.{assembly_stops, chained, chains, link_stops}
use Rattle.m11_cli_chain.proofs.chain.run_chain.Goals as goal

pub returns-in_err-objects : goal.returns-in_err-objects
returns-in_err-objects c =
    let texts = map (λ texts. map (λ text. text.items) texts.items) c.args.sources.now in
    let stops = assembly_stops texts c.args.bottom c.args.words c.in_err-objects.field-0.0 c.from_residual.result
    c.in_err-objects.ensures.fails c.from_residual.ensures.1 in
    record { chains = chains texts c.args.bottom c.args.words c.from_residual.result stops; exact = stops }

pub returns-in_err-tape : goal.returns-in_err-tape
returns-in_err-tape c =
    let texts = map (λ texts. map (λ text. text.items) texts.items) c.args.sources.now in
    let stops = link_stops c.live_lines_give_consistent_sources.ensures c.links_are_refused_for_sizes_alone.ensures
    texts c.args.bottom c.args.words
    (map (λ object. object.items) c.in_ok-objects.objects.items) c.in_err-tape.field-0.0 c.from_residual-in_err-tape.result
    c.in_ok-objects.ensures.objects (rw c.as_slice.ensures.value at c.in_err-tape.ensures.fails) c.from_residual-in_err-tape.ensures.1 in
    record { chains = chains texts c.args.bottom c.args.words c.from_residual-in_err-tape.result stops; exact = stops }

pub returns : goal.returns
returns c =
    let texts = map (λ texts. map (λ text. text.items) texts.items) c.args.sources.now in
    let ends = chained c.links_write_the_texts_of_their_sources.ensures c.loads_of_links_yield_the_image.ensures
    c.accepted_links_are_within_the_sizes.ensures c.tapes_have_the_sizes_of_their_texts.ensures
    texts c.args.bottom c.args.words
    (map (λ object. object.items) c.in_ok-objects.objects.items) c.in_ok-tape.tape.items c.in_ok-objects.ensures.objects
    (rw c.as_slice.ensures.value at c.in_ok-tape.ensures.tape)
    c.load.result (rw c.as_slice-2.ensures.value at c.load.ensures.loads) (rw c.as_slice-2.ensures.value at c.load.ensures.fails) in
    record { chains = chains texts c.args.bottom c.args.words c.load.result ends; exact = ends }
