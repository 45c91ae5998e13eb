use Rattle.cert_check.proofs.nodes.+proved.Goals as goal

pub frames_proved-returns-then-reads_proved : goal.frames_proved-returns-then-reads_proved
frames_proved-returns-then-reads_proved t c =
    rw (c.in-Read.is, c.in-Read-f-2.is, c.in-Read-g-2.is)
    (let x = (rw c.deref-in-Read-g-2.ensures at c.reads_proved.ensures) in
    let y = (rw c.deref-then-reads_proved.ensures at c.tails_proved-then-reads_proved.ensures) in
    (λ h. (x.0 c.if-reads_proved.true, y.0 h), λ h. y.1 h.1))

pub frames_proved-returns-else-reads_proved : goal.frames_proved-returns-else-reads_proved
frames_proved-returns-else-reads_proved t c =
    rw (c.in-Read.is, c.in-Read-f-2.is, c.in-Read-g-2.is)
    (let x = (rw c.deref-in-Read-g-2.ensures at c.reads_proved.ensures) in
    let no = c.if-reads_proved.false in
    (λ h. cc, λ h. x.1 h.0))
